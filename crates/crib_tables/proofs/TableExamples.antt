-- Worked examples of turns that are sure, and of marks at scores. A card is a number below 52: 4 is 2C, 32 is 9C.
use Rattle.std.proofs.Common.{◌≡◌, inl, inr, true, false, List, [], ◌∷◌, take, drop, Some, refl, arith}
use Rattle.std.proofs.lemmas.Bool.{both_ways}
use Rattle.crib_cards.specs.Sets.{set_where}
use Rattle.crib_cards.specs.declared.moves.Act.{Act}
use Rattle.crib_cards.specs.declared.sides.Side.TheVariants.{Owner, Opponent}
use Rattle.crib_cards.specs.declared.moves.Move.TheVariants as move
use Rattle.crib_play.specs.Legal.{IsLegal}
use Rattle.crib_show.specs.declared.show.outcomes.Outcome.TheVariants.{Lost, Reached}
use Rattle.crib_play.specs.declared.turns.Turn.TheVariants as turns
use Rattle.crib_problem.proofs.ExampleProblems.{close_to_lost, four_twos, pairing, plays, says_go}
use Rattle.crib_problem.specs.Setup.{IsDealOf, IsSetup, Setup, hands_of, start_of}
use Rattle.crib_problem.specs.declared.problem.Version.TheVariants.{Two}
use Rattle.crib_know.specs.Knowledge.{asked_now, played_events}
use Rattle.crib_search.specs.Winnable.{IsWinnable}
use Rattle.crib_players.specs.Laws.{longer}
use Rattle.crib_tables.specs.declared.scores.Mark.{Mark}
use Rattle.crib_tables.specs.declared.scores.Mark.TheVariants as mark
use Rattle.crib_tables.specs.declared.scores.Row.{Row}
use Rattle.crib_tables.specs.declared.scores.ScoreTable.{ScoreTable}
use Rattle.crib_cards.specs.declared.sides.Scores.{Scores}
use Rattle.crib_tables.specs.Scores.{AreScores, IsMark, IsMarkAt, IsRow, at_scores, numbers_from, scores_around}
use Rattle.crib_tables.specs.Turns.{AreSure, IsSureBy, IsSureTurn, own_turns}
use Rattle.crib_show.specs.Outcome.{outcome_from}

-- ---- turns

-- the four twos, and a go
turns_of_twos : own_turns four_twos ≡ plays Owner 4 ∷ plays Owner 5 ∷ plays Owner 6 ∷ plays Owner 7 ∷ says_go Owner ∷ []
turns_of_twos = refl

-- a two may be led, and it is sure if a plan is sure after it
a_two_is_sure : IsSureTurn four_twos (plays Owner 4) ≡ IsWinnable (longer four_twos (plays Owner 4))
unfolding set_where
a_two_is_sure = refl

-- no card that is not held is sure, and no go at the lead
not_held_is_not : IsSureTurn four_twos (plays Owner 8) → ⊥
unfolding set_where
not_held_is_not is = omega (arith, is.0)

no_go_is : IsSureTurn four_twos (says_go Owner) → ⊥
unfolding set_where
no_go_is is = omega (arith, is.0)

-- AC is paired by AD, with which the opponent is at 121: the deal ends, and the goal is missed
abbrev ace_led : Setup
ace_led = record close_to_lost { version = Two; played = plays Owner 0 ∷ [] }

the_pair_is_not : IsSureBy (Some 24) ace_led (plays Opponent 1) → ⊥
unfolding set_where outcome_from
the_pair_is_not is = (let lost : Lost ≡ Reached = is.1 pairing (pairing_is, (move.Card 1 ∷ move.Card 0 ∷ [], pair_is_legal, refl)) in absurd cc)
  where
    pairing_is : IsDealOf ace_led pairing
    pairing_is = record { deal = record { held = refl; thrown = refl; distinct = refl; hidden_before = refl }; fixed = refl }

    pair_is_legal : IsLegal (start_of ace_led) (hands_of ace_led pairing) (move.Card 1 ∷ move.Card 0 ∷ [])
    pair_is_legal = ((tt, record { not_done = refl; may_take = (refl, refl) }), record { not_done = refl; may_take = (refl, refl) })

-- of no turns none is sure, and of one at most one
none_of_none : (problem : Setup) → AreSure problem [] 0 × (AreSure problem [] 1 → ⊥)
none_of_none problem = (refl, λ e. omega (arith, e))

one_of_one : (problem : Setup) (act : Act) → IsSureTurn problem act → AreSure problem (act ∷ []) 1
one_of_one problem act is = inl (is, (0, refl, refl))

none_of_one : (problem : Setup) (act : Act) → (IsSureTurn problem act → ⊥) → AreSure problem (act ∷ []) 0
none_of_one problem act not = inr (not, refl)

not_none_of_one : (problem : Setup) (act : Act) → IsSureTurn problem act → AreSure problem (act ∷ []) 0 → ⊥
not_none_of_one problem act is (inl (_, some)) = let one = some.2 in omega (arith, one)
not_none_of_one problem act is (inr (not, are)) = absurd (not is)

not_one_of_one : (problem : Setup) (act : Act) → (IsSureTurn problem act → ⊥) → AreSure problem (act ∷ []) 1 → ⊥
not_one_of_one problem act not (inl (is, others)) = absurd (not is)
not_one_of_one problem act not (inr (_, are)) = omega (arith, are)

-- ---- scores
three_numbers : numbers_from 3 8 ≡ 8 ∷ 9 ∷ 10 ∷ []
three_numbers = refl

in_the_middle : (take 2 (scores_around 109) ≡ 99 ∷ 100 ∷ []) × (drop 20 (scores_around 109) ≡ 119 ∷ [])
in_the_middle = (refl, refl)

from_none : take 1 (scores_around 9) ≡ 0 ∷ []
from_none = refl

up_to_120 : (take 1 (scores_around 117) ≡ 100 ∷ []) × (drop 20 (scores_around 117) ≡ 120 ∷ [])
up_to_120 = (refl, refl)

other_scores : (at_scores four_twos (record { owner = 7; opponent = 9 })).scores ≡ record { owner = 7; opponent = 9 }
other_scores = refl

-- at other scores a problem may have an opening
with_an_opening : (at_scores four_twos (record { owner = 7; opponent = 9 })).version ≡ Two
with_an_opening = refl

-- ---- marks

-- the owner of four twos is to lead, so a mark counts turns
the_owner_leads : asked_now four_twos (played_events four_twos) ≡ turns.Owner
the_owner_leads = refl

a_count_of_turns : AreSure four_twos (own_turns four_twos) 4 → IsMark four_twos (mark.Turns 4)
a_count_of_turns are = (refl, are)

no_mark_of_a_plan : IsMark four_twos (mark.Plan true) → ⊥
no_mark_of_a_plan is = absurd (is.0 refl)

never_impossible : IsMark four_twos mark.Impossible → ⊥
never_impossible is = is

-- at 121 the game is over
no_such_score : IsMarkAt four_twos (record { owner = 121; opponent = 0 }) mark.Impossible
no_such_score setup = omega (arith, setup.owner_score)

no_count_there : IsMarkAt four_twos (record { owner = 0; opponent = 121 }) (mark.Turns 0) → ⊥
no_count_there is = omega (arith, is.0.opponent_score)

-- a row has a mark for each score of the opponent
an_empty_row : {row : Row} → row.owner ≡ 5 → row.marks.items ≡ [] → IsRow four_twos [] 5 row × (IsRow four_twos (3 ∷ []) 5 row → ⊥)
an_empty_row {row} owner none = ((owner, rw none tt), λ is. rw none at is.1)

a_wrong_count : (AreSure four_twos (own_turns four_twos) 4 → ⊥) → IsMark four_twos (mark.Turns 4) → ⊥
a_wrong_count none mark = none mark.1

no_plan_there : IsMarkAt four_twos (record { owner = 0; opponent = 121 }) (mark.Plan true) → ⊥
no_plan_there is = omega (arith, is.0.opponent_score)

wrong_marks : (scores : Scores)
    → ((IsMark (at_scores four_twos scores) (mark.Turns 4) → ⊥) → IsMarkAt four_twos scores (mark.Turns 4) → ⊥)
    × ((IsMark (at_scores four_twos scores) (mark.Plan true) → ⊥) → IsMarkAt four_twos scores (mark.Plan true) → ⊥)
wrong_marks scores = (λ none is. none is.1, λ none is. none is.1)

another_score : (row : Row) → (row.owner ≡ 5 → ⊥) → IsRow four_twos [] 5 row → ⊥
another_score row other is = other is.0

another_turn : (table : ScoreTable) → (table.turn ≡ asked_now four_twos (played_events four_twos) → ⊥) → AreScores four_twos table → ⊥
another_turn table other are = other are.turn

other_columns : (table : ScoreTable) → (table.columns.items ≡ scores_around 0 → ⊥) → AreScores four_twos table → ⊥
other_columns table other are = other are.columns

-- ---- marks of plans: after the lead of 2C the opponent is to move
abbrev two_led : Setup
two_led = record four_twos { version = Two; played = plays Owner 4 ∷ [] }

no_count_on_their_turn : IsMark two_led (mark.Turns 0) → ⊥
no_count_on_their_turn is = (let turn : turns.Opponent ≡ turns.Owner = is.0 in absurd cc)

a_plan_on_their_turn : IsWinnable two_led → IsMark two_led (mark.Plan true)
a_plan_on_their_turn winnable = (λ turn. (let same : turns.Opponent ≡ turns.Owner = turn in absurd cc), (λ yes. winnable, λ any. refl))

a_plan_that_is_denied : IsWinnable two_led → IsMark two_led (mark.Plan false) → ⊥
a_plan_that_is_denied winnable is = both_ways false refl (is.1.1 winnable)

possible_scores : (scores : Scores) → IsSetup (at_scores four_twos scores) → IsMarkAt four_twos scores mark.Impossible → ⊥
possible_scores scores setup impossible = impossible setup

-- ---- rows and tables
-- marks are in the order of the columns, as many as there are columns
a_row_of_three : {row : Row} (one other last : Mark) → row.owner ≡ 5 → row.marks.items ≡ one ∷ other ∷ last ∷ []
    → IsMarkAt four_twos (record { owner = 5; opponent = 8 }) one → IsMarkAt four_twos (record { owner = 5; opponent = 8 }) other
    → IsMarkAt four_twos (record { owner = 5; opponent = 9 }) last → IsRow four_twos (8 ∷ 8 ∷ 9 ∷ []) 5 row
a_row_of_three one other last owner marks first second third = (owner, rw marks (first, (second, (third, tt))))

no_count_at_121 : {row : Row} → row.marks.items ≡ mark.Turns 0 ∷ mark.Impossible ∷ [] → IsRow four_twos (121 ∷ 0 ∷ []) 5 row → ⊥
no_count_at_121 marks is = (let at_121 = (rw marks at is.1).0.0.opponent_score in omega (arith, at_121))

one_mark_for_two : {row : Row} → row.marks.items ≡ mark.Impossible ∷ [] → IsRow four_twos (121 ∷ 121 ∷ []) 5 row → ⊥
one_mark_for_two marks is = (rw marks at is.1).1

no_rows : (table : ScoreTable) → table.rows.items ≡ [] → AreScores four_twos table → ⊥
no_rows table none are = rw none at are.rows

-- at 100 to 119 the rows begin at 90, and the columns at 100
the_first_row : (table : ScoreTable) (row : Row) (rows : List Row) → table.rows.items ≡ row ∷ rows → AreScores close_to_lost table → row.owner ≡ 90
the_first_row table row rows first are = (rw first at are.rows).0.0

the_first_column : (table : ScoreTable) → AreScores close_to_lost table → take 1 table.columns.items ≡ 100 ∷ []
the_first_column table are = rw are.columns refl
