-- Worked examples of what comes next, and of turns that are refused. A card is a number below 52: 0 is AC, 1 is AD, 4 is 2C.
use Rattle.std.proofs.Common.{arith, ◌≡◌, ℕ, List, [], ◌∷◌, ◌++◌, Some, None, Ok, Err, Result, refl, ap}
use Rattle.std.specs.Prelude.{codes, map, length, take, replicate}
use Rattle.std.specs.List.{AllByRecursion}
use Rattle.std.specs.Fmt.{digits}
use Rattle.crib_cards.specs.Sets.{set_where}
use Rattle.crib_cards.specs.declared.sides.Side.TheVariants.{Owner, Opponent}
use Rattle.crib_play.specs.declared.turns.Turn.TheVariants as turns
use Rattle.crib_problem.specs.declared.problem.Version.TheVariants.{Two}
use Rattle.crib_problem.specs.Setup.{IsSetup, Setup}
use Rattle.crib_problem.specs.Setup.{IsMove}
use Rattle.crib_problem.specs.Spelling.{problem_lines, problem_text}
use Rattle.crib_problem.proofs.ExampleProblems.{after_tens, after_two, close_to_lost, four_twos, level, level_acts, plays, says_go, twos_and_aces}
use Rattle.crib_text.specs.Refusals.{Refusal}
use Rattle.crib_plan.specs.declared.plan.Next.TheVariants.{End, To}
use Rattle.crib_plan.specs.declared.plan.Node.{Node}
use Rattle.crib_plan.specs.Nodes.{ArePlan}
use Rattle.crib_cards.specs.declared.moves.Act.{Act}
use Rattle.crib_plan.specs.declared.plan.Node.TheVariants.{Play as PlayNode, See}
use Rattle.crib_plan.specs.Spelling.{plan_lines, plan_text}
use Rattle.crib_input.proofs.InputReaders.{read_question, refused}
use Rattle.crib_next.specs.Section.{AreTurns, turns_at, turns_lines, turns_text}
use Rattle.crib_next.specs.Input.{SpellsTurns, next_of_question, next_question_at, next_question_of_input, fault_of_next, fault_of_question}
use Rattle.crib_next.specs.Next.{next_for, next_from, unless_ending, turn_fault}
use Rattle.crib_next.specs.declared.next.NextTurn.TheVariants.{Play, Go, Wait, Over, Stuck}
use Rattle.crib_game.specs.declared.fault.GameFault.TheVariants as faults

-- the twos, the lowest first
abbrev two_by_two : List Node
two_by_two = PlayNode 4 (To 1) ∷ PlayNode 5 (To 2) ∷ PlayNode 6 (To 3) ∷ PlayNode 7 End ∷ []

-- ---- what comes next

-- the pone leads 2C, waits, and then plays 2D
the_lead : next_from four_twos two_by_two 12 [] [] ≡ Ok (Play 4)
unfolding set_where
the_lead = refl

their_turn : next_from four_twos two_by_two 12 [] (plays Owner 4 ∷ []) ≡ Ok Wait
unfolding set_where
their_turn = refl

the_next_two : next_from four_twos two_by_two 12 [] (plays Owner 4 ∷ plays Opponent 0 ∷ []) ≡ Ok (Play 5)
unfolding set_where
the_next_two = refl

-- after the opening the plan is at its start: it states 2C, which is played
the_plan_begins_after_the_opening : next_from after_two two_by_two 12 [] [] ≡ Ok Stuck
unfolding set_where
the_plan_begins_after_the_opening = refl

no_node_is_left : next_from four_twos [] 12 [] [] ≡ Ok Stuck
unfolding set_where
no_node_is_left = refl

-- all eight cards are played
all_cards : next_from four_twos two_by_two 12 [] twos_and_aces ≡ Ok Over
unfolding set_where
all_cards = refl

-- at 29, where the opponent has said go, the two of the owner fits. At 31 the count begins again, and the opponent leads
abbrev at_29 : Setup
at_29 = record level { version = Two; played = after_tens.played ++ plays Owner 32 ∷ [] }

a_two_for_31 : next_from at_29 (PlayNode 4 End ∷ []) 12 [] (says_go Opponent ∷ []) ≡ Ok (Play 4)
unfolding set_where
a_two_for_31 = refl

they_lead_at_31 : next_from at_29 (PlayNode 4 End ∷ []) 12 [] (says_go Opponent ∷ plays Owner 4 ∷ []) ≡ Ok Wait
unfolding set_where
they_lead_at_31 = refl

-- a card that is stated but doesn't fit, a go where none fits, and the only card, which fits
high_or_none : next_for turns.Owner 30 (0 ∷ 20 ∷ []) (Some 20) ∷ next_for turns.Owner 30 (20 ∷ []) (Some 20) ∷ next_for turns.Owner 30 (0 ∷ []) (Some 0) ∷ []
    ≡ Stuck ∷ Go ∷ Play 0 ∷ []
high_or_none = refl

-- an ace of the opponent is seen, and 2D played after it
abbrev by_the_ace : List Node
by_the_ace = PlayNode 4 (To 1) ∷ See (To 2 ∷ replicate 13 End) ∷ PlayNode 5 End ∷ []

after_the_ace : next_from four_twos by_the_ace 12 [] (plays Owner 4 ∷ plays Opponent 0 ∷ []) ≡ Ok (Play 5)
unfolding set_where
after_the_ace = refl

-- after another card the plan has ended
after_a_king : next_from four_twos by_the_ace 12 [] (plays Owner 4 ∷ plays Opponent 48 ∷ []) ≡ Ok Stuck
unfolding set_where
after_a_king = refl

-- the two that was stated after the ace doesn't stray
as_stated_after_the_ace : next_from four_twos by_the_ace 12 [] (plays Owner 4 ∷ plays Opponent 0 ∷ plays Owner 5 ∷ []) ≡ Ok Wait
unfolding set_where
as_stated_after_the_ace = refl

-- TC 9C 2C 8C in this order
abbrev in_order : List Node
in_order = PlayNode 36 (To 1) ∷ PlayNode 32 (To 2) ∷ PlayNode 4 (To 3) ∷ PlayNode 28 End ∷ []

-- after 31 the opponent leads KD, and 8C makes 18
a_new_count : next_from level in_order 12 [] (take 6 level_acts) ≡ Ok (Play 28)
unfolding set_where
a_new_count = refl

all_turns_of_the_deal : next_from level in_order 12 [] level_acts ≡ Ok Over
unfolding set_where
all_turns_of_the_deal = refl

-- at 30, after TC TD 9C AC, neither 2C nor 8C fits
a_go_at_30 : next_from level in_order 12 [] (plays Owner 36 ∷ plays Opponent 37 ∷ plays Owner 32 ∷ plays Opponent 0 ∷ []) ≡ Ok Go
unfolding set_where
a_go_at_30 = refl

-- the owner has an ace in place of 2C, plays it after the opponent's go, and 8C doesn't fit at 30
abbrev with_an_ace : Setup
with_an_ace = record level { hold = 36 ∷ 32 ∷ 0 ∷ 28 ∷ [] }

no_second_ace : next_from with_an_ace (PlayNode 36 (To 1) ∷ PlayNode 32 (To 2) ∷ PlayNode 0 End ∷ []) 12 []
    (plays Owner 36 ∷ plays Opponent 37 ∷ plays Owner 32 ∷ says_go Opponent ∷ plays Owner 0 ∷ []) ≡ Ok Go
unfolding set_where
no_second_ace = refl

-- after the go at 29 the plan states 2C, and 8C after it
two_before_eight : next_from at_29 (PlayNode 4 (To 1) ∷ PlayNode 28 End ∷ []) 12 [] (says_go Opponent ∷ []) ≡ Ok (Play 4)
unfolding set_where
two_before_eight = refl

-- 9C pairs 9D, with which the owner is at 121. No turn follows
abbrev close_to_won : Setup
close_to_won = record level { scores = record { owner = 119; opponent = 0 } }

nines_end_it : next_from close_to_won in_order 12 [] (plays Owner 36 ∷ plays Opponent 33 ∷ plays Owner 32 ∷ []) ≡ Ok Over
unfolding set_where
nines_end_it = refl

nothing_follows_the_nines : next_from close_to_won in_order 12 [] (plays Owner 36 ∷ plays Opponent 33 ∷ plays Owner 32 ∷ plays Opponent 0 ∷ [])
    ≡ Err (record { line = 15; number = 45 })
unfolding set_where
nothing_follows_the_nines = refl

-- ---- turns that are refused, each with its line

out_of_turn : next_from four_twos two_by_two 12 [] (plays Opponent 0 ∷ []) ≡ Err (record { line = 12; number = 44 })
unfolding set_where
out_of_turn = refl

-- of a section that begins at line 15
out_of_turn_below_line_15 : next_of_question (four_twos, two_by_two, plays Opponent 0 ∷ [], 15) ≡ Err (record { line = 16; number = 44 })
unfolding set_where
out_of_turn_below_line_15 = refl

a_card_that_is_not_held : next_from four_twos two_by_two 12 [] (plays Owner 3 ∷ []) ≡ Err (record { line = 12; number = 41 })
unfolding set_where
a_card_that_is_not_held = refl

a_go_too_early : next_from four_twos two_by_two 12 [] (plays Owner 4 ∷ says_go Opponent ∷ []) ≡ Err (record { line = 13; number = 23 })
unfolding set_where
a_go_too_early = refl

a_card_that_was_seen : next_from four_twos two_by_two 12 [] (plays Owner 4 ∷ plays Opponent 4 ∷ []) ≡ Err (record { line = 13; number = 20 })
unfolding set_where
a_card_that_was_seen = refl

-- the plan states 2C, and the owner leads 2D
a_card_that_strays : next_from four_twos two_by_two 12 [] (plays Owner 5 ∷ []) ≡ Err (record { line = 12; number = 46 })
unfolding set_where
a_card_that_strays = refl

-- AC is paired by AD, with which the opponent is at 121. No turn follows
a_pair_ends_it : next_from close_to_lost (PlayNode 0 End ∷ []) 12 [] (plays Owner 0 ∷ plays Opponent 1 ∷ []) ≡ Ok Over
unfolding set_where
a_pair_ends_it = refl

nothing_follows_the_end
    : next_from close_to_lost (PlayNode 0 End ∷ []) 12 [] (plays Owner 0 ∷ plays Opponent 1 ∷ says_go Owner ∷ []) ≡ Err (record { line = 14; number = 45 })
unfolding set_where
nothing_follows_the_end = refl

-- a turn that ends the deal is not refused for it
ending_turns : map unless_ending (None ∷ Some 24 ∷ Some 20 ∷ []) ≡ None ∷ None ∷ Some 20 ∷ []
ending_turns = refl

-- ---- the text of turns
two_turns : turns_text (plays Owner 4 ∷ says_go Opponent ∷ []) ≡ codes "turns 2\nown 2C\nopp go\n"
unfolding turns_text turns_lines digits
two_turns = refl

-- ---- turns that have a spelling: 32, and not 33 or a card past the pack
two_and_thirty : AllByRecursion (λ (act : Act). IsMove act.what) (replicate 32 (plays Opponent 0)) → AreTurns (replicate 32 (plays Opponent 0))
two_and_thirty moves = record { few = omega arith; moves = moves }

no_turns : ¬ (AreTurns (replicate 33 (plays Opponent 0))) × ¬ (AreTurns (plays Opponent 52 ∷ []))
no_turns = (λ are. omega arith, λ are. omega arith)

-- ---- what inputs are read as
abbrev problem_section : List ℕ
problem_section = codes "problem 2\ndealer opponent\nscore 0 0\nstarter KD\nhold 2C 2D 2H 2S\nthrow 4C 6D\ngoal holes 13\nplayed 2\nown 2C\nopp AC\n"

abbrev plan_section : List ℕ
plan_section = codes "plan 1\nnodes 1\n0 play 2D end\n"

abbrev turns_section : List ℕ
turns_section = codes "turns 2\nown 2D\nopp go\n"

abbrev the_turns : List Act
the_turns = plays Owner 5 ∷ says_go Opponent ∷ []

unfoldable read_turns : List ℕ → Result (Setup × List Node × List Act × ℕ) Refusal
unfolding read_question turns_at next_question_at next_question_of_input
read_turns bytes = next_question_of_input bytes

-- the section of the turns begins at line 14. The same with a line after it, no turns, and turns before the plan
turns_read : map read_turns ((problem_section ++ plan_section ++ turns_section) ∷ (problem_section ++ plan_section ++ turns_section ++ codes "\n")
    ∷ (problem_section ++ plan_section) ∷ (problem_section ++ turns_section ++ plan_section) ∷ [])
    ≡ Ok (after_two, PlayNode 5 End ∷ [], the_turns, 14) ∷ refused 17 8 ∷ refused 14 3 ∷ refused 11 4 ∷ []
unfolding read_turns
turns_read = refl

-- ---- what an input spells: the texts of a problem, a plan and turns, one after the other
the_spelled_turns : IsSetup after_two → ArePlan (PlayNode 5 End ∷ []) → AreTurns the_turns
    → SpellsTurns (problem_section ++ plan_section ++ turns_section) after_two (PlayNode 5 End ∷ []) the_turns
unfolding problem_text problem_lines plan_text plan_lines turns_text turns_lines digits
the_spelled_turns problem plan turns = record { problem_is = problem; plan_is = plan; turns_are = turns; text = refl }

nothing_spells_turns : SpellsTurns [] after_two (PlayNode 5 End ∷ []) the_turns → ⊥
unfolding problem_text problem_lines plan_text plan_lines turns_text turns_lines digits
nothing_spells_turns is = (let none : 0 ≡ length (problem_section ++ plan_section ++ turns_section) = ap (λ (bytes : List ℕ). length bytes) is.text in
    absurd (omega (arith, none)))

-- an input that spells turns has a problem, a plan and turns
what_is_spelled : (input : List ℕ) (problem : Setup) (plan : List Node) (turns : List Act) → SpellsTurns input problem plan turns
    → ((IsSetup problem → ⊥) → ⊥) × ((ArePlan plan → ⊥) → ⊥) × ((AreTurns turns → ⊥) → ⊥)
what_is_spelled input problem plan turns is = (λ none. none is.problem_is, λ none. none is.plan_is, λ none. none is.turns_are)

-- ---- the fault of a game for which a turn is refused: after the end, or a stray, and none of an opening
turn_faults : turn_fault 3 45 ≡ Some (faults.AfterEnd 3)
turn_faults = refl

stray_faults : turn_fault 3 46 ≡ Some (faults.Strays 3)
stray_faults = refl

no_turn_faults : (turn_fault 3 44 ≡ None) × (turn_fault 3 47 ≡ None)
no_turn_faults = (refl, refl)

faults_by_line : (fault_of_next 14 (Err (record { line = 17; number = 46 })) ≡ Some (faults.Strays 3))
    × (fault_of_question (Err (record { line = 17; number = 46 })) ≡ None)
faults_by_line = (refl, refl)
