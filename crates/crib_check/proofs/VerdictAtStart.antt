-- What the walk's answer at the first position says of the plan.
use Rattle.std.proofs.Common.{◌≡◌, ℕ, Bool, true, false, cond, not, ◌&&◌, List, ◌∷◌, reverse, Option, Some, None, refl, sym, ap, inl, inr, arith}
use Rattle.std.specs.List.{list_any}
use Rattle.std.proofs.lemmas.Bool.{cases_Bool, and_parts, false_from_ne_true}
use Rattle.std.proofs.lemmas.Bool.Decides.{nat_tests}
use Rattle.std.proofs.lemmas.List.{reverse-reverse}
use Rattle.crib_cards.specs.Sets.{has}
use Rattle.crib_cards.specs.Sides.{same_side}
use Rattle.crib_cards.specs.Start.{Start, pone_of, Hands}
use Rattle.crib_cards.specs.declared.sides.Dealt.{Dealt}
use Rattle.crib_cards.specs.declared.sides.Side.{Side}
use Rattle.crib_cards.specs.declared.sides.Side.TheVariants.{Owner, Opponent}
use Rattle.crib_cards.specs.declared.moves.Move.{Move}
use Rattle.crib_cards.specs.declared.moves.Move.TheVariants as move
use Rattle.crib_cards.specs.Letters.{letter_of}
use Rattle.crib_play.specs.Filled.{is_visible}
use Rattle.crib_play.specs.Record.{mover}
use Rattle.crib_play.specs.Legal.{letters_of, cards_left, fits, MayTake}
use Rattle.crib_play.specs.History.{Event, acts_of, act_by}
use Rattle.crib_play.proofs.Progress.{progress_law}
use Rattle.crib_play.proofs.RecordBounds.{at_most_29}
use Rattle.crib_show.specs.declared.show.outcomes.Outcome.{Outcome}
use Rattle.crib_show.specs.declared.show.outcomes.Outcome.TheVariants as outcome
use Rattle.crib_problem.specs.Setup.{Setup, IsSetup, start_of, hands_of, BeginsAsPlayed}
use Rattle.crib_plan.specs.declared.plan.Node.{Node}
use Rattle.crib_plan.specs.Places.{stated_card}
use Rattle.crib_know.specs.Knowledge.{played_events}
use Rattle.crib_know.proofs.Deals.{dealt_is}
use Rattle.crib_game.specs.declared.section.game.Game.{Game}
use Rattle.crib_game.specs.declared.following.ending.Ending.{Ending}
use Rattle.crib_game.specs.declared.following.ending.Ending.TheVariants as ending
use Rattle.crib_game.specs.Replay.{is_done_for, outcome_for, play_scores}
use Rattle.crib_game.specs.Following.{place_of, IsAsStated, is_playable, is_stuck}
use Rattle.crib_game.specs.Followed.{IsRecordUnder, ending_of, ending_with, ending_without}
use Rattle.crib_sure.specs.declared.keys.Key.{Key}
use Rattle.crib_check.specs.declared.verdict.Verdict.{Verdict}
use Rattle.crib_check.specs.declared.verdict.Verdict.TheVariants.{Holds, Fails}
use Rattle.crib_sure.specs.Sure.{IsFollowed, IsSure, GoesOn, Ends}
use Rattle.crib_check.specs.Failing.{IsFailing, IsFailingEnding, IsFirstFailing}
use Rattle.crib_sure.specs.Positions.{StandsAt}
use Rattle.crib_check.specs.Private.Positions.{HoldsFrom, IsSettled, IsFirstFrom}
use Rattle.crib_check.specs.Private.Walks.{IsAnswer}
use Rattle.crib_check.proofs.ExtendedGames.{failing_begins}
use Rattle.crib_check.proofs.FailureEndings.{failing_followed}
use Rattle.crib_sure.proofs.PlaceByHistory.{not_stuck}

pub first_of_all : (problem : Setup) (plan : List Node) (game : Game) (result : Ending) → IsFirstFrom problem plan (played_events problem) game result →
    IsFirstFailing problem plan game result
first_of_all problem plan game result first = assumption (λ (other : Game) (others_ending : Ending) (fails : IsFailing problem plan other others_ending).
    first.first other others_ending fails (failing_begins fails))

-- a record with one more turn begins as before
begins_more : (problem : Setup) (pone : Side) (turn : Move) (played : List Move) → BeginsAsPlayed problem (acts_of pone played) →
    BeginsAsPlayed problem (acts_of pone (turn ∷ played))
begins_more problem pone turn played begins = elim (cases_Bool (is_visible pone (letter_of turn) (letters_of played))) [
  | inl v ↦ rw v (record { later = act_by pone turn played ∷ begins.later; parts = λ i. act_by pone turn played ∷ begins.parts i })
  | inr v ↦ rw v begins
]

-- a record that is stuck is not done
not_done : (d who any playable : Bool) → (not d && who && any && not playable) ≡ true → d ≡ false
not_done d who any playable stuck = grind (arith, nat_tests, stuck)

-- an outcome with which no plan has failed
not_failed : (o : Outcome) → (IsFailingEnding (ending_with o) → ⊥) → o ≡ outcome.Reached
not_failed outcome.Reached none = refl
not_failed outcome.Lost none = absurd (none (inr (inl refl)))
not_failed outcome.Short none = absurd (none (inr (inr refl)))

module _ {problem : Setup} {plan : List Node} {dealt : Dealt} {played : List Move} (followed : IsFollowed problem plan dealt played) where
  abbrev start : Start
  start = start_of problem

  abbrev hands : Hands
  hands = hands_of problem dealt

  abbrev done : Bool
  done = is_done_for problem played

  abbrev stuck : Bool
  stuck = is_stuck plan problem.played start hands played

  -- the game of the record
  abbrev game : Game
  game = record { opp = dealt; acts = record { items = reverse (acts_of (pone_of start) played) } }

  of_game : IsRecordUnder problem plan game played
  of_game = record {
    of_game = record { deal = followed.deal; legal = followed.legal; acts = sym (reverse-reverse _); begins = rw reverse-reverse followed.begins };
    follows = followed.follows;
  }

  -- no game of the record fails
  none_fails : HoldsFrom problem plan (played_events problem) → (result : Ending) → ending_of problem plan dealt played ≡ result → IsFailingEnding result → ⊥
  none_fails holds result is failure =
      let failing : IsFailing problem plan game result = record { played = played; of_game = of_game; ending_is = is; failure = failure } in
      holds game result failing (failing_begins failing)

  pub never_stuck : HoldsFrom problem plan (played_events problem) → stuck ≡ false
  never_stuck holds = false_from_ne_true stuck (λ is.
      none_fails holds ending.Stuck
      (λ i. ending_without (cond (not_done done _ _ _ is i) (Some (outcome_for problem dealt (play_scores problem played))) None) (is i))
      (inl refl))

  pub reached : HoldsFrom problem plan (played_events problem) → done ≡ true → outcome_for problem dealt (play_scores problem played) ≡ outcome.Reached
  reached holds is = not_failed _ (none_fails holds (ending_with (outcome_for problem dealt (play_scores problem played)))
      (λ i. ending_without (cond (is i) (Some (outcome_for problem dealt (play_scores problem played))) None) stuck))

  -- ---- the play goes on
  abbrev NextFollowed : Type 0
  NextFollowed = (turn : Move) × IsFollowed problem plan dealt (turn ∷ played)

  goes_with : (side : Side) (turn : Move) → mover (pone_of start) (letters_of played) ≡ side → done ≡ false → MayTake hands side turn played →
      IsAsStated plan (place_of plan problem.played (pone_of start) played) side turn → NextFollowed
  goes_with side turn m going take as_stated = (
    turn,
    record {
      deal = followed.deal;
      legal = (followed.legal, record { not_done = going; may_take = rw m take });
      begins = begins_more problem (pone_of start) turn played followed.begins;
      follows = (followed.follows, λ late. rw m as_stated);
    },
  )

  owner_plays : mover (pone_of start) (letters_of played) ≡ Owner → done ≡ false → (stated : Option ℕ) →
      stated_card plan (place_of plan problem.played (pone_of start) played) ≡ stated → is_playable hands played stated ≡ true → NextFollowed
  owner_plays m going None e is = absurd cc
  owner_plays m going (Some card) e is =
      goes_with Owner (move.Card card) m going (and_parts (has (cards_left hands Owner played) card) (fits played card) is) e

  goes_by : (side : Side) → mover (pone_of start) (letters_of played) ≡ side → stuck ≡ false → done ≡ false → NextFollowed
  goes_by Owner m free going = elim (cases_Bool (list_any (fits played) (cards_left hands Owner played))) [
    | inl some ↦ owner_plays m going _ refl (not_stuck done _ _ _ free going (ap (λ (s : Side). same_side s Owner) m) some)
    | inr none ↦ goes_with Owner move.Go m going none tt
  ]
  goes_by Opponent m free going =
      let next = progress_law start hands played going in
      goes_with Opponent next.0 m going (rw m at next.1.may_take) tt

  pub goes_on : stuck ≡ false → done ≡ false → NextFollowed
  goes_on free going = goes_by (mover (pone_of start) (letters_of played)) refl free going

pub sure_from : (problem : Setup) (plan : List Node) → HoldsFrom problem plan (played_events problem) → IsSure problem plan
sure_from problem plan holds =
    record { never_stuck = λ dealt played followed. never_stuck followed holds; reached = λ dealt played followed. reached followed holds }

-- a sure plan goes on
pub sure_goes_on : (problem : Setup) (plan : List Node) → IsSure problem plan → GoesOn problem plan
sure_goes_on problem plan sure dealt played followed = goes_on followed (sure.never_stuck dealt played followed)

pub ends : (problem : Setup) → IsSetup problem → Ends problem
ends problem setup dealt played deal legal = at_most_29 (start_of problem) (hands_of problem dealt) played (dealt_is problem setup dealt deal) legal

-- ---- the verdict at the first position
-- if a history leads to a position, the verdict there is right
abbrev pub IsRightFrom : Setup → List Node → Key → List Event → Verdict → Type 0
IsRightFrom problem plan key history Holds = IsSettled problem plan key
IsRightFrom problem plan key history (Fails result game) = IsFirstFrom problem plan history game result

module _ (problem : Setup) (plan : List Node) (key : Key) (stands : StandsAt problem plan key (played_events problem)) where
  pub verdict_at_start : (verdict : Verdict) → IsRightFrom problem plan key (played_events problem) verdict →
      IsAnswer problem plan verdict
  verdict_at_start Holds settled =
      let sure = sure_from problem plan (settled (played_events problem) stands) in
      record { right = sure; followed = tt; goes_on = sure_goes_on problem plan sure; ends = ends problem stands.knows.setup }
  verdict_at_start (Fails result game) first = record {
    right = first_of_all problem plan game result first;
    followed = failing_followed problem plan stands.knows.setup game result first.failing;
    goes_on = tt;
    ends = ends problem stands.knows.setup;
  }
