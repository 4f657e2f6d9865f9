-- The place of a plan along a filled record, and the visible turns that do not stray.
use Rattle.std.proofs.Common.{◌≡◌, ℕ, zero, suc, Bool, true, false, cond, not, List, [], ◌∷◌, Option, Some, refl, sym, ap, ◌∙◌, arith}
use Rattle.std.specs.Prelude.{is_some}
use Rattle.std.proofs.lemmas.Bool.{cond_both, not-true}
use Rattle.std.proofs.lemmas.Bool.Decides.{nat_tests}
use Rattle.crib_cards.specs.Letters.{letter_of}
use Rattle.crib_cards.specs.Start.{Start, pone_of}
use Rattle.crib_cards.specs.declared.sides.Side.{Side}
use Rattle.crib_cards.specs.declared.sides.Side.TheVariants.{Owner, Opponent}
use Rattle.crib_cards.specs.declared.letters.Letter.TheVariants.{Go}
use Rattle.crib_cards.specs.declared.moves.Move.{Move}
use Rattle.crib_cards.specs.declared.moves.Move.TheVariants as move
use Rattle.crib_play.specs.Record.{mover}
use Rattle.crib_play.specs.Filled.{is_visible, is_silent_next}
use Rattle.crib_play.specs.Legal.{letters_of}
use Rattle.crib_play.specs.History.{with_silent_moves, filled_moves, act_by}
use Rattle.crib_play.proofs.LegalRecords.{silent_unheard}
use Rattle.crib_plan.specs.declared.plan.Next.{Next}
use Rattle.crib_plan.specs.declared.plan.Node.{Node}
use Rattle.crib_plan.specs.Places.{stated_card}
use Rattle.crib_game.specs.Laws.{NoneStrays}
use Rattle.crib_game.specs.Following.{place_after_turn, opening_is_over, place_of, IsAsStated, Follows}
use Rattle.crib_cards.specs.declared.moves.Act.{Act}
use Rattle.crib_problem.specs.Setup.{Setup, start_of}
use Rattle.crib_game.specs.declared.replaying.remark.Remark.TheVariants.{Fine}
use Rattle.crib_game.specs.Replay.{remark_of, next_played, by_rules}
use Rattle.crib_game.specs.Followed.{is_stated, strays_at, by_plan}
use Rattle.crib_game.proofs.OpeningEnds.{over_is}

-- ---- the place
-- a silent go leaves the place
go_stays : (plan : List Node) (over : Bool) (side : Side) (visible : Bool) (place : Next) → visible ≡ false →
    cond over (place_after_turn plan side move.Go visible place) place ≡ place
go_stays plan over side visible place unseen = grind (arith, unseen)

pub place_gos : (n : ℕ) (plan : List Node) (played : List Act) (start : Start) (past : List Move) →
    place_of plan played (pone_of start) (with_silent_moves n start past) ≡ place_of plan played (pone_of start) past
place_gos zero plan played start past = refl
place_gos (suc n) plan played start past =
    let here = place_of plan played (pone_of start) past in
    cond_both (is_silent_next start (letters_of past)) _ _ (λ (moves : List Move). place_of plan played (pone_of start) moves ≡ here)
    (λ s. place_gos n plan played start (move.Go ∷ past) ∙ go_stays plan (opening_is_over played (pone_of start) past) (mover (pone_of start) (letters_of past))
    (is_visible (pone_of start) Go (letters_of past)) here (silent_unheard start past s)) (λ s. refl)

turned : (b : Bool) (place other : Next) → cond b place other ≡ cond (not b) other place
turned b place other = grind arith

-- a visible turn after the opening moves the place
pub place_more : (plan : List Node) (played : List Act) (start : Start) (side : Side) (turn : Move) (seen : List Move) →
    side ≡ mover (pone_of start) (letters_of (filled_moves start seen)) →
    is_visible (pone_of start) (letter_of turn) (letters_of (filled_moves start seen)) ≡ true →
    cond (is_some (next_played played (pone_of start) (filled_moves start seen))) (place_of plan played (pone_of start) (filled_moves start seen))
    (place_after_turn plan side turn true (place_of plan played (pone_of start) (filled_moves start seen)))
    ≡ place_of plan played (pone_of start) (filled_moves start (turn ∷ seen))
place_more plan played start side turn seen is visible =
    let past = filled_moves start seen in
    let here = place_of plan played (pone_of start) past in
    (λ i. cond (is_some (next_played played (pone_of start) past)) here (place_after_turn plan (is i) turn (sym visible i) here))
    ∙ turned (is_some (next_played played (pone_of start) past)) here (place_after_turn plan (mover (pone_of start) (letters_of past)) turn
    (is_visible (pone_of start) (letter_of turn) (letters_of past)) here)
    ∙ (λ i. cond (sym (over_is played (pone_of start) past) i) (place_after_turn plan (mover (pone_of start) (letters_of past)) turn
    (is_visible (pone_of start) (letter_of turn) (letters_of past)) here) here)
    ∙ sym (place_gos 3 plan played start (turn ∷ past))

-- ---- what is stated
stated_is : (stated : Option ℕ) (card : ℕ) → not (is_stated stated card) ≡ false → stated ≡ Some card
stated_is stated card e = grind (arith, nat_tests, e)

is_stated_one : (stated : Option ℕ) (card : ℕ) → stated ≡ Some card → not (is_stated stated card) ≡ false
is_stated_one stated card e = grind (arith, nat_tests, e)

-- ---- a record follows a plan exactly where none of its visible turns strays
as_stated : (plan : List Node) (place : Next) (pone side : Side) (turn : Move) (past : List Move) →
    (is_visible pone (letter_of turn) (letters_of past) ≡ true → strays_at plan place side turn ≡ false) → IsAsStated plan place side turn
as_stated plan place pone Owner (move.Card card) past none = stated_is (stated_card plan place) card (none refl)
as_stated plan place pone Owner move.Go past none = tt
as_stated plan place pone Opponent turn past none = tt

not_strays : (plan : List Node) (place : Next) (side : Side) (turn : Move) → IsAsStated plan place side turn → strays_at plan place side turn ≡ false
not_strays plan place Owner (move.Card card) is = is_stated_one (stated_card plan place) card is
not_strays plan place Owner move.Go is = refl
not_strays plan place Opponent turn is = refl

plan_fine : (next : Option Act) (astray : Bool) (act : Act) → remark_of next false act ≡ Fine → (is_some next ≡ false → astray ≡ false) →
    remark_of next astray act ≡ Fine
plan_fine next astray act e f = grind (arith, e, f)

rules_fine : (next : Option Act) (astray : Bool) (act : Act) → remark_of next astray act ≡ Fine → remark_of next false act ≡ Fine
rules_fine next astray act e = grind (arith, e)

not_astray : (next : Option Act) (astray : Bool) (act : Act) → remark_of next astray act ≡ Fine → is_some next ≡ false → astray ≡ false
not_astray next astray act e f = grind (arith, e, f)

module _ (problem : Setup) (plan : List Node) where
  abbrev pone : Side
  pone = pone_of (start_of problem)

  -- no turn of an opening that is over comes next
  none_left : (past : List Move) → opening_is_over problem.played pone past ≡ true → is_some (next_played problem.played pone past) ≡ false
  none_left past over = not-true (is_some (next_played problem.played pone past)) (sym (over_is problem.played pone past) ∙ over)

  pub follows_from : (played : List Move) → NoneStrays (by_plan plan problem) pone played → Follows plan problem.played pone played
  follows_from [] none = tt
  follows_from (turn ∷ past) none =
      (follows_from past none.0, λ over. as_stated plan _ pone _ turn past (λ seen. not_astray _ _ _ (none.1 seen) (none_left past over)))

  pub as_played_from : (played : List Move) → NoneStrays (by_plan plan problem) pone played → NoneStrays (by_rules problem) pone played
  as_played_from [] none = tt
  as_played_from (turn ∷ past) none =
      let strays = strays_at plan (place_of plan problem.played pone past) (mover pone (letters_of past)) turn in
      (as_played_from past none.0, λ seen. rules_fine (next_played problem.played pone past) strays (act_by pone turn past) (none.1 seen))

  pub none_strays_from : (played : List Move) → Follows plan problem.played pone played → NoneStrays (by_rules problem) pone played →
      NoneStrays (by_plan plan problem) pone played
  none_strays_from [] follows none = tt
  none_strays_from (turn ∷ past) follows none =
      let strays_not : opening_is_over problem.played pone past ≡ true → _ = λ over. not_strays plan _ _ turn (follows.1 over) in
      (none_strays_from past follows.0 none.0, λ seen. plan_fine _ _ _ (none.1 seen) (λ later. strays_not (over_is problem.played pone past ∙ ap not later)))
