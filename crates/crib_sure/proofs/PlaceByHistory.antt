-- The place of a plan after a record depends on the history alone, and so does whether the record follows the plan.
use Rattle.std.proofs.Common.{◌≡◌, ◌↔◌, ℕ, ◌≤◌, Bool, true, false, cond, leb, List, [], ◌∷◌, length, length-append, refl, sym, ap}
use Rattle.std.proofs.Common.{◌∙◌, inl, inr, arith}
use Rattle.std.proofs.lemmas.List.{length-map, length-reverse}
use Rattle.std.proofs.lemmas.Bool.{cases_Bool, both_ways, le-leb, lt-leb}
use Rattle.crib_cards.specs.Letters.{letter_of}
use Rattle.crib_cards.specs.declared.sides.Side.{Side}
use Rattle.crib_cards.specs.declared.sides.Side.TheVariants.{Owner, Opponent}
use Rattle.crib_cards.specs.declared.moves.Move.{Move}
use Rattle.crib_cards.specs.declared.moves.Move.TheVariants as move
use Rattle.crib_cards.specs.declared.moves.Act.{Act}
use Rattle.crib_play.specs.Record.{mover}
use Rattle.crib_play.specs.Filled.{is_visible}
use Rattle.crib_play.specs.Legal.{letters_of}
use Rattle.crib_play.specs.History.{Event, event_of, event_by, acts_of, history_of}
use Rattle.crib_plan.specs.declared.plan.Next.{Next}
use Rattle.crib_plan.specs.declared.plan.Node.{Node}
use Rattle.crib_plan.specs.Places.{plan_start}
use Rattle.crib_problem.specs.Setup.{Setup, played_back}
use Rattle.crib_know.specs.Knowledge.{played_events}
use Rattle.crib_know.specs.Hidden.{BeginsAfter}
use Rattle.crib_game.specs.Following.{opening_is_over, place_after_turn, place_of, IsAsStated, Follows}
use Rattle.crib_sure.specs.HistoryPlaces.{is_late, place_after_event, place_by, IsStatedEvent, FollowsBy}
use Rattle.std.proofs.Common.{not, ◌&&◌}
use Rattle.std.proofs.lemmas.Bool.Decides.{nat_tests}

-- during the opening the plan stays at its start, and no card need be stated
early : (plan : List Node) (played : List Act) (history : List Event) → length history ≤ length played →
    (place_by plan played history ≡ plan_start plan) × FollowsBy plan played history
early plan played [] most = (refl, tt)
early plan played (event ∷ history) most =
    let not_late : is_late played history ≡ false = lt-leb (length played) (length history) (omega arith) in
    let before = early plan played history (omega arith) in (rw not_late before.0, (before.1, λ late. absurd (both_ways _ not_late late)))

played_long : (problem : Setup) → length (played_events problem) ≡ length problem.played
played_long problem = length-map (played_back problem) event_of ∙ length-reverse problem.played

pub place_at_start : (plan : List Node) (problem : Setup) → place_by plan problem.played (played_events problem) ≡ plan_start plan
place_at_start plan problem = (early plan problem.played (played_events problem) (omega (arith, played_long problem))).0

pub follows_at_start : (plan : List Node) (problem : Setup) → FollowsBy plan problem.played (played_events problem)
follows_at_start plan problem = (early plan problem.played (played_events problem) (omega (arith, played_long problem))).1

pub begun_late : (problem : Setup) (history : List Event) → BeginsAfter problem history → is_late problem.played history ≡ true
begun_late problem history begun = le-leb (length problem.played) (length history)
    (omega (arith, ap length begun.parts, length-append begun.later (played_events problem), played_long problem))

-- a turn after the opening moves the place
pub place_later : (plan : List Node) (problem : Setup) (event : Event) (history : List Event) → BeginsAfter problem history →
    place_by plan problem.played (event ∷ history) ≡ place_after_event plan (place_by plan problem.played history) event
place_later plan problem event history begun = rw (begun_late problem history begun)

module _ (plan : List Node) (given : List Act) (pone : Side) where
  visible_place : (m : Side) (turn : Move) (place : Next) → place_after_turn plan m turn true place ≡ place_after_event plan place (event_by m turn)
  visible_place Owner (move.Card card) place = refl
  visible_place m turn place = refl

  silent_place : (m : Side) (turn : Move) (past : List Move) (place : Next) → is_visible pone (letter_of turn) (letters_of past) ≡ false →
      place_after_turn plan m turn false place ≡ place
  silent_place Owner (move.Card card) past place v = absurd cc
  silent_place m turn past place v = refl

  -- the opening is over after a record
  over_is_late : (past : List Move) → opening_is_over given pone past ≡ is_late given (history_of pone past)
  over_is_late past = ap (λ (n : ℕ). leb (length given) n) (sym (length-map (acts_of pone past) event_of))

  same_either : (b : Bool) (place : Next) → cond b place place ≡ place
  same_either true place = refl
  same_either false place = refl

  pub place_history : (played : List Move) → place_of plan given pone played ≡ place_by plan given (history_of pone played)
  place_history [] = refl
  place_history (turn ∷ past) =
      let m = mover pone (letters_of past) in
      let here = place_of plan given pone past in
      elim (cases_Bool (is_visible pone (letter_of turn) (letters_of past))) [
        | inl v ↦ rw (v, visible_place m turn here, over_is_late past, place_history past)
        | inr v ↦ rw (v, silent_place m turn past here v, same_either (opening_is_over given pone past) here) (place_history past)
      ]

  stated : (m : Side) (turn : Move) (place : Next) → IsAsStated plan place m turn ↔ IsStatedEvent plan place (event_by m turn)
  stated Owner turn place = (λ is. is, λ is. is)
  stated Opponent turn place = (λ is. tt, λ is. tt)

  stated_silent : (m : Side) (turn : Move) (past : List Move) (place : Next) → is_visible pone (letter_of turn) (letters_of past) ≡ false →
      IsAsStated plan place m turn
  stated_silent Owner (move.Card card) past place v = absurd cc
  stated_silent m turn past place v = tt

  pub follows_to : (played : List Move) → Follows plan given pone played → FollowsBy plan given (history_of pone played)
  follows_to [] follows = tt
  follows_to (turn ∷ past) follows = elim (cases_Bool (is_visible pone (letter_of turn) (letters_of past))) [
    | inl v ↦ rw v (
      follows_to past follows.0,
      λ late. rw (← place_history past) ((stated (mover pone (letters_of past)) turn _).0 (follows.1 (over_is_late past ∙ late))),
    )
    | inr v ↦ rw v (follows_to past follows.0)
  ]

  pub follows_from : (played : List Move) → FollowsBy plan given (history_of pone played) → Follows plan given pone played
  follows_from [] follows = tt
  follows_from (turn ∷ past) follows =
      let m = mover pone (letters_of past) in
      elim (cases_Bool (is_visible pone (letter_of turn) (letters_of past))) [
        | inl v ↦
            let both : FollowsBy plan given (event_by m turn ∷ history_of pone past) = rw v at follows in
            (follows_from past both.0, λ late. (stated m turn _).1 (rw (place_history past) (both.1 (sym (over_is_late past) ∙ late))))
        | inr v ↦ (follows_from past (rw v at follows), λ late. stated_silent m turn past _ v)
      ]

-- a place that is not stuck, where the owner is asked and a card fits, states a card that he may play
pub not_stuck : (d who any playable : Bool) → (not d && who && any && not playable) ≡ false → d ≡ false → who ≡ true → any ≡ true → playable ≡ true
not_stuck d who any playable e going asked some = grind (arith, nat_tests, e, going, asked, some)
