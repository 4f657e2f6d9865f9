-- A worked plan that is sure, with two branches. The opening is TC TD 9C, which makes 29. The owner knows all twos, so the opponent shows an ace or says go.
-- After an ace the owner's ace makes a pair and 31. After a go his two makes 31.
use Rattle.std.proofs.Common.{arith, ◌≡◌, ◌⊎◌, ◌<◌, refl, sym, ap, ◌∙◌, subst, inl, inr, ℕ, Bool, true, false, eqb, not, ◌||◌}
use Rattle.std.proofs.Common.{List, [], ◌∷◌, ◌++◌, length, filter}
use Rattle.std.specs.Prelude.{IsTrue, IsFalse, if◌then◌else◌}
use Rattle.std.specs.List.{list_all, list_any}
use Rattle.std.proofs.lemmas.Bool.{both_ways, cases_Bool, eq-eqb, or_cases, or_left, or_right}
use Rattle.std.proofs.lemmas.Bool.Decides.{nat_tests}
use Rattle.std.proofs.lemmas.Option.{same_Some}
use Rattle.crib_cards.specs.Sets.{has, set_where}
use Rattle.crib_cards.specs.declared.sides.Dealt.{Dealt}
use Rattle.crib_cards.specs.declared.sides.Side.TheVariants.{Owner, Opponent}
use Rattle.crib_cards.specs.declared.moves.Move.{Move}
use Rattle.crib_cards.specs.declared.moves.Move.TheVariants.{Card, Go}
use Rattle.crib_cards.specs.declared.moves.Act.{Act}
use Rattle.crib_play.specs.Legal.{MayCome, IsLegal, cards_of, cards_left, fits, letters_of}
use Rattle.crib_play.specs.History.{act_by, acts_of}
use Rattle.crib_play.specs.Filled.{is_visible}
use Rattle.crib_play.specs.Record.{mover}
use Rattle.crib_cards.specs.Letters.{letter_of}
use Rattle.crib_cards.proofs.Members.{all_has}
use Rattle.crib_show.specs.declared.show.outcomes.Outcome.TheVariants.{Reached}
use Rattle.crib_problem.specs.Setup.{IsDealOf, start_of, hands_of, played_back, unseen_of}
use Rattle.crib_game.specs.Replay.{is_done_for, outcome_for, play_scores}
use Rattle.crib_game.specs.Following.{opening_is_over, IsAsStated, Follows, is_stuck, place_of}
use Rattle.crib_sure.specs.Sure.{IsSure, IsFollowed, GoesOn, Ends}
use Rattle.crib_check.specs.Verdicts.{KeepsOn}
use Rattle.crib_check.specs.declared.verdict.Verdict.TheVariants.{Fails}
use Rattle.crib_game.specs.declared.section.game.Game.{Game}
use Rattle.crib_game.specs.declared.following.ending.Ending.TheVariants as ending
use Rattle.crib_sure.proofs.ExampleOpening.{ace_or_two, at_29}
use Rattle.crib_show.specs.Outcome.{outcome_from}

-- the opening, and then with one turn more; the last turn comes first
abbrev three_turns : List Move
three_turns = Card 32 ∷ Card 37 ∷ Card 36 ∷ []

-- all records that follow the plan, and their beginnings
data Course : List Move → Type 0 where
  nothing : Course []
  the_ten : Course (Card 36 ∷ [])
  two_tens : Course (Card 37 ∷ Card 36 ∷ [])
  at_count_29 : Course (Card 32 ∷ Card 37 ∷ Card 36 ∷ [])
  diamond : Course (Card 1 ∷ Card 32 ∷ Card 37 ∷ Card 36 ∷ [])
  heart : Course (Card 2 ∷ Card 32 ∷ Card 37 ∷ Card 36 ∷ [])
  spade : Course (Card 3 ∷ Card 32 ∷ Card 37 ∷ Card 36 ∷ [])
  a_go : Course (Go ∷ Card 32 ∷ Card 37 ∷ Card 36 ∷ [])
  after_diamond : Course (Card 0 ∷ Card 1 ∷ Card 32 ∷ Card 37 ∷ Card 36 ∷ [])
  after_heart : Course (Card 0 ∷ Card 2 ∷ Card 32 ∷ Card 37 ∷ Card 36 ∷ [])
  after_spade : Course (Card 0 ∷ Card 3 ∷ Card 32 ∷ Card 37 ∷ Card 36 ∷ [])
  after_go : Course (Card 4 ∷ Go ∷ Card 32 ∷ Card 37 ∷ Card 36 ∷ [])

-- ---- how many of the three turns some acts begin with, or that they differ from them
data Stage : Type 0 where
  None_yet : Stage
  One : Stage
  Both : Stage
  All : Stage
  Astray : Stage

abbrev is_card : ℕ → Move → Bool
is_card number (Card card) = eqb number card
is_card number Go = false

abbrev stage_with : Stage → Move → Stage
stage_with None_yet what = if is_card 36 what then One else Astray
stage_with One what = if is_card 37 what then Both else Astray
stage_with Both what = if is_card 32 what then All else Astray
stage_with it what = it

abbrev stage : List Act → Stage
stage [] = None_yet
stage (act ∷ before) = stage_with (stage before) act.what

abbrev IsOnCourse : Stage → Type 0
IsOnCourse Astray = ⊥
IsOnCourse it = Unit {0}

begun : (later : List Act) → stage (later ++ played_back at_29) ≡ All
begun [] = refl
begun (act ∷ later) = ap (λ it. stage_with it act.what) (begun later)

before_it : (it : Stage) (what : Move) → IsOnCourse (stage_with it what) → IsOnCourse it
before_it Astray what is = is
before_it it what is = tt

before_visible : (visible : Bool) (act : Act) (acts : List Act) → IsOnCourse (stage (if visible then act ∷ acts else acts)) → IsOnCourse (stage acts)
before_visible true act acts is = before_it (stage acts) act.what is
before_visible false act acts is = is

the_card : (number card : ℕ) (it : Stage) → IsOnCourse (if eqb number card then it else Astray) → number ≡ card
the_card number card it is = grind (arith, nat_tests, is)

-- ---- what the opponent may show at 29: his cards are unseen, and only the aces among them fit
passes : (p q : ℕ → Bool) (cards more : List ℕ) (card : ℕ) → list_all p (cards ++ more) ≡ true → has (filter q cards) card ≡ true → p card ≡ true
passes p q [] more card all left = absurd (both_ways false refl left)
passes p q (first ∷ cards) more card all left = grind (arith, nat_tests, all, left, passes p q cards more card)

only_aces_fit : list_all (λ card. not (fits three_turns card) || (eqb 1 card || (eqb 2 card || eqb 3 card))) (unseen_of at_29) ≡ true
unfolding set_where
only_aces_fit = refl

one_that_fits : (cards : List ℕ) → list_any (fits three_turns) cards ≡ true → (card : ℕ) × (has cards card ≡ true) × (fits three_turns card ≡ true)
one_that_fits [] any = absurd (both_ways false refl any)
one_that_fits (first ∷ cards) any =
    elim (or_cases (fits three_turns first) (list_any (fits three_turns) cards) any) [
      | inl here ↦ (first, or_left (eqb first first) (has cards first) (eq-eqb first first refl), here)
      | inr there ↦ let found = one_that_fits cards there in (found.0, or_right (eqb first found.0) (has cards found.0) found.1, found.2)
    ]

an_ace : (dealt : Dealt) (card : ℕ) → IsDealOf at_29 dealt → has (cards_left (hands_of at_29 dealt) Opponent three_turns) card ≡ true →
    fits three_turns card ≡ true → (1 ≡ card) ⊎ (2 ≡ card) ⊎ (3 ≡ card)
an_ace dealt card deal left fit =
    let hidden = passes (has (unseen_of at_29)) (λ card. not (has (cards_of three_turns) card)) dealt.hold dealt.throw card deal.deal.hidden_before left in
    grind (arith, nat_tests, fit, all_has _ (unseen_of at_29) card only_aces_fit hidden)

-- ---- each record that follows the plan is a course
further : (dealt : Dealt) (turn : Move) (past : List Move) → IsDealOf at_29 dealt → Course past → MayCome (start_of at_29) (hands_of at_29 dealt) turn past →
    Follows ace_or_two at_29.played Owner (turn ∷ past) → IsOnCourse (stage (acts_of Owner (turn ∷ past))) → Course (turn ∷ past)
further dealt (Card card) past deal nothing come follows on = rw (← the_card 36 card One on) the_ten
further dealt (Card card) past deal the_ten come follows on = rw (← the_card 37 card Both on) two_tens
further dealt Go past deal the_ten come follows on = absurd on
further dealt (Card card) past deal two_tens come follows on = rw (← the_card 32 card All on) at_count_29
further dealt (Card card) past deal at_count_29 come follows on = elim (an_ace dealt card deal come.may_take.0 come.may_take.1) [
  | inl one ↦ rw (← one) diamond
  | inr (inl two) ↦ rw (← two) heart
  | inr (inr three) ↦ rw (← three) spade
]
further dealt Go past deal at_count_29 come follows on = a_go
further dealt (Card card) past deal diamond come follows on = rw (← same_Some 0 card (follows.1 refl)) after_diamond
further dealt (Card card) past deal heart come follows on = rw (← same_Some 0 card (follows.1 refl)) after_heart
further dealt (Card card) past deal spade come follows on = rw (← same_Some 0 card (follows.1 refl)) after_spade
further dealt (Card card) past deal a_go come follows on = rw (← same_Some 4 card (follows.1 refl)) after_go
further dealt turn past deal after_diamond come follows on = absurd (both_ways true come.not_done refl)
further dealt turn past deal after_heart come follows on = absurd (both_ways true come.not_done refl)
further dealt turn past deal after_spade come follows on = absurd (both_ways true come.not_done refl)
further dealt turn past deal after_go come follows on = absurd (both_ways true come.not_done refl)
further dealt Go past deal other come follows on = absurd (both_ways true come.may_take refl)

course : (dealt : Dealt) (played : List Move) → IsDealOf at_29 dealt → IsLegal (start_of at_29) (hands_of at_29 dealt) played →
    Follows ace_or_two at_29.played Owner played → IsOnCourse (stage (acts_of Owner played)) → Course played
course dealt [] deal legal follows on = nothing
course dealt (turn ∷ past) deal legal follows on =
    let earlier = before_visible (is_visible Owner (letter_of turn) (letters_of past)) (act_by Owner turn past) (acts_of Owner past) on in
    further dealt turn past deal (course dealt past deal legal.0 follows.0 earlier) legal.1 follows on

-- a record that begins with the three turns, as a course
course_of : (dealt : Dealt) (played : List Move) → IsFollowed at_29 ace_or_two dealt played → (stage (acts_of Owner played) ≡ All) × Course played
course_of dealt played is =
    let all : stage (acts_of Owner played) ≡ All = ap stage is.begins.parts ∙ begun is.begins.later in
    (all, course dealt played is.deal is.legal is.follows (subst IsOnCourse (sym all) tt))

-- ---- the plan is sure
sure_at : (dealt : Dealt) (played : List Move) → stage (acts_of Owner played) ≡ All → Course played →
    IsFalse (is_stuck ace_or_two at_29.played (start_of at_29) (hands_of at_29 dealt) played)
    × (IsTrue (is_done_for at_29 played) → outcome_for at_29 dealt (play_scores at_29 played) ≡ Reached)
unfolding outcome_from
sure_at dealt played all nothing = absurd cc
sure_at dealt played all the_ten = absurd cc
sure_at dealt played all two_tens = absurd cc
sure_at dealt played all after_diamond = (refl, λ over. refl)
sure_at dealt played all after_heart = (refl, λ over. refl)
sure_at dealt played all after_spade = (refl, λ over. refl)
sure_at dealt played all after_go = (refl, λ over. refl)
sure_at dealt played all other = (refl, λ over. absurd (both_ways false refl over))

pub ace_or_two_is_sure : IsSure at_29 ace_or_two
ace_or_two_is_sure = record {
  never_stuck = λ dealt played is. let found = course_of dealt played is in (sure_at dealt played found.0 found.1).0;
  reached = λ dealt played is. let found = course_of dealt played is in (sure_at dealt played found.0 found.1).1;
}

-- ---- the play goes on: the opponent has an ace, or he says go
with_turn : {dealt : Dealt} {past : List Move} (turn : Move) → IsFollowed at_29 ace_or_two dealt past →
    acts_of Owner (turn ∷ past) ≡ act_by Owner turn past ∷ acts_of Owner past → MayCome (start_of at_29) (hands_of at_29 dealt) turn past →
    (IsTrue (opening_is_over at_29.played Owner past) →
    IsAsStated ace_or_two (place_of ace_or_two at_29.played Owner past) (mover Owner (letters_of past)) turn) →
    (next : Move) × IsFollowed at_29 ace_or_two dealt (next ∷ past)
with_turn {past = past} turn is visible come planned = (
  turn,
  record {
    deal = is.deal;
    legal = (is.legal, come);
    begins = record { later = act_by Owner turn past ∷ is.begins.later; parts = visible ∙ ap (λ acts. act_by Owner turn past ∷ acts) is.begins.parts };
    follows = (is.follows, planned);
  },
)

next_turn : (dealt : Dealt) (played : List Move) → Course played → stage (acts_of Owner played) ≡ All → IsFollowed at_29 ace_or_two dealt played →
    IsFalse (is_done_for at_29 played) → (turn : Move) × IsFollowed at_29 ace_or_two dealt (turn ∷ played)
next_turn dealt played nothing all is on = absurd cc
next_turn dealt played the_ten all is on = absurd cc
next_turn dealt played two_tens all is on = absurd cc
next_turn dealt played at_count_29 all is on =
    elim (cases_Bool (list_any (fits three_turns) (cards_left (hands_of at_29 dealt) Opponent three_turns))) [
      | inl any ↦
          let found = one_that_fits (cards_left (hands_of at_29 dealt) Opponent three_turns) any in
          with_turn (Card found.0) is refl (record { not_done = refl; may_take = (found.1, found.2) }) (λ late. tt)
      | inr none ↦ with_turn Go is refl (record { not_done = refl; may_take = none }) (λ late. tt)
    ]
next_turn dealt played diamond all is on = with_turn (Card 0) is refl (record { not_done = refl; may_take = (refl, refl) }) (λ late. refl)
next_turn dealt played heart all is on = with_turn (Card 0) is refl (record { not_done = refl; may_take = (refl, refl) }) (λ late. refl)
next_turn dealt played spade all is on = with_turn (Card 0) is refl (record { not_done = refl; may_take = (refl, refl) }) (λ late. refl)
next_turn dealt played a_go all is on = with_turn (Card 4) is refl (record { not_done = refl; may_take = (refl, refl) }) (λ late. refl)
next_turn dealt played done all is on = absurd (both_ways true on refl)

pub ace_or_two_goes_on : GoesOn at_29 ace_or_two
ace_or_two_goes_on dealt played is on = let found = course_of dealt played is in next_turn dealt played found.1 found.0 is on

-- nothing is asked of a failing game here: it may go on or not
pub a_failing_plan_need_not_go_on : (game : Game) → KeepsOn at_29 ace_or_two (Fails ending.Lost game)
a_failing_plan_need_not_go_on game = tt

-- ---- the play ends: the statement holds if no record has thirty turns, and fails if one has
pub fewer_than_thirty_turns :
    ((dealt : Dealt) (played : List Move) → IsDealOf at_29 dealt → IsLegal (start_of at_29) (hands_of at_29 dealt) played → length played < 30) → Ends at_29
fewer_than_thirty_turns few dealt played deal legal = omega (arith, few dealt played deal legal)
