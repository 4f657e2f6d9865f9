-- Worked examples of problems: goals, conditions, hidden deals, and games that begin with the opening.
use Rattle.std.proofs.Common.{arith, ◌≡◌, refl, sym, ap, ◌∙◌, true, false, [], ◌∷◌, List, ℕ, reverse, codes}
use Rattle.std.specs.Prelude.{map, replicate}
use Rattle.std.specs.Fmt.{digits}
use Rattle.std.proofs.lemmas.Bool.{both_ways}
use Rattle.std.proofs.lemmas.List.{reverse-append}
use Rattle.crib_cards.specs.Sets.{set_where}
use Rattle.crib_cards.specs.declared.sides.Side.TheVariants.{Owner, Opponent}
use Rattle.crib_cards.specs.declared.letters.Letter.TheVariants.{Seen}
use Rattle.crib_cards.specs.declared.moves.Act.{Act}
use Rattle.crib_cards.specs.declared.moves.Move.{Move}
use Rattle.crib_cards.specs.declared.moves.Move.TheVariants.{Card, Go}
use Rattle.crib_cards.specs.declared.sides.Dealt.{Dealt}
use Rattle.crib_play.specs.History.{with_silent_moves}
use Rattle.crib_play.specs.Legal.{letters_of}
use Rattle.crib_play.specs.Score.{is_done, scores_after}
use Rattle.crib_problem.specs.Laws.{IsHonest}
use Rattle.crib_problem.specs.Played.{cards_played}
use Rattle.crib_problem.specs.declared.problem.Goal.TheVariants.{Win, Holes, Stop}
use Rattle.crib_problem.specs.declared.problem.Version.TheVariants.{One, Two}
use Rattle.crib_problem.specs.Setup.{Setup, IsSetup, IsGoal, CanSay, IsMove, IsDealOf, BeginsAsPlayed, setup_by, target_of, known_cards, start_of}
use Rattle.crib_problem.specs.Setup.{at_lead, fixed_cards, goal_hole, hands_of, is_stop, opening_basis_of, played_back}
use Rattle.crib_problem.specs.Spelling.{problem_text, problem_lines}
use Rattle.crib_problem.proofs.Setups.{setup_from}
use Rattle.crib_problem.proofs.ExampleProblems.{plays, says_go, level, four_twos, after_two, aces}

-- the owner deals and holds four twos, the scores are 61 to 70, and the goal is twelve holes
abbrev midway : Setup
midway = record four_twos { version = Two; dealer = Owner; scores = record { owner = 61; opponent = 70 }; goal = Holes 12 }

-- ---- goals
-- the holes of a goal are counted from the owner's score
pub holes_of_goals : (map (goal_hole 61) (Win ∷ Holes 12 ∷ Stop ∷ []) ≡ 121 ∷ 73 ∷ 121 ∷ []) × (target_of midway ≡ 73)
    × (map is_stop (Win ∷ Holes 3 ∷ Stop ∷ []) ≡ false ∷ false ∷ true ∷ [])
holes_of_goals = (refl, refl, refl)

pub owner_first_in_the_text : problem_text (record midway { goal = Stop })
    ≡ codes "problem 2\ndealer owner\nscore 61 70\nstarter KD\nhold 2C 2D 2H 2S\nthrow 4C 6D\ngoal stop\nplayed 0\n"
unfolding problem_text problem_lines digits
owner_first_in_the_text = refl

pub all_holes_and_the_last : IsGoal 0 (Holes 121) × IsGoal 120 (Holes 1)
all_holes_and_the_last = ((omega arith, omega arith), (omega arith, omega arith))

pub no_holes_and_past_the_end : ¬ (IsGoal 0 (Holes 0)) × ¬ (IsGoal 120 (Holes 2))
no_holes_and_past_the_end = (λ is. omega arith, λ is. omega arith)

-- the opponent leads a seven, and the owner makes fifteen with an eight: two holes are reached, and three are not
pub reached_in_the_play : map (λ holes. is_done (start_of (record midway { goal = Holes holes })) (Seen 8 ∷ Seen 7 ∷ [])) (2 ∷ 3 ∷ []) ≡ true ∷ false ∷ []
reached_in_the_play = refl

-- ---- the conditions of a problem
pub owner_at_120 : IsSetup (record midway { scores = record { owner = 120; opponent = 119 }; goal = Holes 1 })
owner_at_120 = setup_from _ refl (omega arith, omega arith) tt (omega arith) tt tt

pub opponent_at_120 : IsSetup (record midway { scores = record { owner = 119; opponent = 120 }; goal = Holes 2 })
opponent_at_120 = setup_from _ refl (omega arith, omega arith) tt (omega arith) tt tt

-- a score above 120, a goal of no holes, a card too few, and more than 32 turns
pub not_in_bounds :
    ¬ (IsSetup (record midway { scores = record { owner = 121; opponent = 0 }; goal = Win }))
    × ¬ (IsSetup (record midway { scores = record { owner = 0; opponent = 121 }; goal = Win }))
    × ¬ (IsSetup (record midway { goal = Holes 0 })) × ¬ (IsSetup (record midway { hold = 4 ∷ 5 ∷ 6 ∷ [] }))
    × ¬ (IsSetup (record midway { thrown = 12 ∷ [] })) × ¬ (IsSetup (record midway { played = replicate 33 (plays Owner 4) }))
not_in_bounds = (λ is. omega arith, λ is. omega arith, λ is. omega arith, λ is. omega arith, λ is. omega arith, λ is. omega arith)

pub past_the_pack : ¬ (IsSetup (record midway { starter = 52 })) × ¬ (IsSetup (record midway { thrown = 12 ∷ 52 ∷ [] }))
    × ¬ (IsSetup (record midway { played = plays Opponent 52 ∷ [] })) × ¬ (IsMove (Card 52))
past_the_pack = (λ is. omega arith, λ is. omega arith, λ is. omega arith, λ is. omega arith)

-- a card that is thrown and held; and the owner deals, so the opponent leads
pub thrown_card_is_held : ¬ (IsSetup (record midway { thrown = 12 ∷ 7 ∷ [] })) × ¬ (IsSetup (record midway { played = plays Owner 4 ∷ [] }))
unfolding set_where
thrown_card_is_held = (λ is. cc, λ is. cc)

-- version 1 has neither the goal `stop` nor an opening
pub not_in_version_1 : ¬ (CanSay One Stop []) × ¬ (CanSay One Win (plays Owner 4 ∷ [])) × ¬ (IsSetup (record midway { version = One; goal = Stop }))
not_in_version_1 = (λ can. cc, λ can. cc, λ is. cc)

pub win_in_version_1_and_a_go : CanSay One Win [] × IsMove Go
win_in_version_1_and_a_go = ((refl, refl), tt)

-- ---- hidden deals after own 2C and opp AC
pub aces_are_a_deal : IsDealOf after_two aces
unfolding set_where
aces_are_a_deal = record { deal = record { held = refl; thrown = refl; distinct = refl; hidden_before = refl }; fixed = refl }

-- the starter in the throw, a card twice, three held and three thrown; and the ace that was played isn't held, or is thrown
pub no_deals :
    ¬ (IsDealOf after_two (record aces { throw = 8 ∷ 49 ∷ [] })) × ¬ (IsDealOf after_two (record aces { throw = 8 ∷ 1 ∷ [] }))
    × ¬ (IsDealOf after_two (record aces { hold = 0 ∷ 1 ∷ 2 ∷ [] })) × ¬ (IsDealOf after_two (record aces { throw = 8 ∷ 9 ∷ 10 ∷ [] }))
    × ¬ (IsDealOf after_two (record aces { hold = 10 ∷ 1 ∷ 2 ∷ 3 ∷ [] }))
    × ¬ (IsDealOf after_two (record aces { hold = 1 ∷ 2 ∷ 3 ∷ 8 ∷ []; throw = 0 ∷ 9 ∷ [] }))
unfolding set_where
no_deals = (λ is. cc, λ is. cc, λ is. omega arith, λ is. omega arith, λ is. cc, λ is. cc)

-- ---- games that begin with own 2C and opp AC; their acts have the last one first
pub goes_on_with_2D : BeginsAsPlayed after_two (plays Opponent 1 ∷ plays Owner 5 ∷ plays Opponent 0 ∷ plays Owner 4 ∷ [])
goes_on_with_2D = record { later = plays Opponent 1 ∷ plays Owner 5 ∷ []; parts = refl }

-- own 2D and opp AC are not that opening
pub begins_with_2D : ¬ (BeginsAsPlayed after_two (plays Opponent 0 ∷ plays Owner 5 ∷ []))
begins_with_2D is =
    let cards : ◌≡◌ {A = List ℕ} (5 ∷ 0 ∷ []) (4 ∷ 0 ∷ cards_played (reverse is.later)) =
    ap (λ acts. cards_played (reverse acts)) is.parts ∙ ap cards_played (reverse-append is.later (played_back after_two)) in
    let first : ◌≡◌ {A = ℕ} 5 4 = cc in omega (arith, first)

-- ---- the parts of a problem
pub parts_of_midway :
    setup_by Two Owner (record { owner = 61; opponent = 70 }) 49 (7 ∷ 4 ∷ 6 ∷ 5 ∷ []) (21 ∷ 12 ∷ []) Stop (plays Opponent 0 ∷ says_go Owner ∷ [])
    ≡ record midway { hold = 7 ∷ 4 ∷ 6 ∷ 5 ∷ []; thrown = 21 ∷ 12 ∷ []; goal = Stop; played = plays Opponent 0 ∷ says_go Owner ∷ [] }
parts_of_midway = refl

-- the known cards are the starter, then the hold, then the throw; only the opponent's cards of the opening are fixed
pub what_is_said_of_problems :
    (known_cards midway ≡ 49 ∷ 4 ∷ 5 ∷ 6 ∷ 7 ∷ 12 ∷ 21 ∷ []) × (fixed_cards after_two ≡ 0 ∷ [])
    × (start_of midway ≡ record { dealer = Owner; scores = record { owner = 61; opponent = 70 }; target = 73 })
    × (hands_of midway aces ≡ record { owner = 4 ∷ 5 ∷ 6 ∷ 7 ∷ []; opponent = 0 ∷ 1 ∷ 2 ∷ 3 ∷ [] })
    × (opening_basis_of midway ≡ record { start = start_of midway; hold = 4 ∷ 5 ∷ 6 ∷ 7 ∷ []; known = 49 ∷ 4 ∷ 5 ∷ 6 ∷ 7 ∷ 12 ∷ 21 ∷ [] })
    × (at_lead after_two ≡ record four_twos { version = Two }) × (played_back after_two ≡ plays Opponent 0 ∷ plays Owner 4 ∷ [])
what_is_said_of_problems = (refl, refl, refl, refl, refl, refl, refl)

-- the owner holds TC 8C AC AD, and wants three holes. After TC TD, 8C, a go at 28, AC and AD, which are a pair, the gos that nobody
-- hears close the pile, and its last card makes the third hole: the deal is done, so these acts are no opening
abbrev three_holes : Setup
three_holes = record level { version = Two; hold = 36 ∷ 28 ∷ 0 ∷ 1 ∷ []; goal = Holes 3 }

abbrev to_the_pair : List Move
to_the_pair = Card 1 ∷ Go ∷ Card 0 ∷ Go ∷ Card 28 ∷ Card 37 ∷ Card 36 ∷ []

pub two_holes_and_three_with_the_close :
    map (λ played. scores_after (start_of three_holes) (letters_of played)) (to_the_pair ∷ with_silent_moves 3 (start_of three_holes) to_the_pair ∷ [])
    ≡ record { owner = 2; opponent = 2 } ∷ record { owner = 3; opponent = 2 } ∷ []
two_holes_and_three_with_the_close = refl

pub done_by_silent_gos : (dealt : Dealt) (acts : List Act) (is : IsHonest three_holes dealt acts) → is.played ≡ to_the_pair → ⊥
done_by_silent_gos dealt acts is e =
    both_ways true (sym (ap (λ played. is_done (start_of three_holes) (letters_of (with_silent_moves 3 (start_of three_holes) played))) e) ∙ is.going) refl
