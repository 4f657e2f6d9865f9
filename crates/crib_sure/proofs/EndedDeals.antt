-- The outcome of a deal that is done, in terms of what is known.
use Rattle.std.proofs.Common.{◌≡◌, ◌⊎◌, ℕ, Bool, true, false, ◌↔◌, List, length, refl, sym, ap, ◌∙◌, inl, inr}
use Rattle.std.proofs.lemmas.Bool.{both_ways, false_from_ne_true, leb-false, or_parts}
use Rattle.crib_cards.specs.Sides.{are_decided, game_hole}
use Rattle.crib_cards.specs.declared.sides.Scores.{Scores}
use Rattle.crib_cards.specs.declared.sides.Dealt.{Dealt}
use Rattle.crib_play.specs.declared.turns.Turn.TheVariants as turns
use Rattle.crib_play.specs.Score.{scores_after}
use Rattle.crib_play.specs.Filled.{filled_record}
use Rattle.crib_play.specs.History.{Event, history_letters}
use Rattle.crib_show.specs.Show.{hand_points}
use Rattle.crib_show.specs.Outcome.{outcome_of}
use Rattle.crib_show.specs.Demands.{AllMeet, IsMetByAll, IsMetByNone, is_met_by}
use Rattle.crib_show.specs.declared.demands.Demand.{Demand}
use Rattle.crib_problem.specs.Setup.{Setup, start_of, target_of}
use Rattle.crib_know.specs.Knowledge.{Knowledge, their_ranks}
use Rattle.crib_know.specs.Hidden.{AgreesWith, KnowsAfter}
use Rattle.crib_game.specs.Replay.{outcome_for}
use Rattle.crib_sure.specs.Shows.{IsDemandAtEnd, IsReachedBehind, full_behind, worst_of}
use Rattle.crib_sure.proofs.PointsOfDeals.{all_meet, none_meets}
use Rattle.crib_sure.proofs.ShowsBehind.{four_played, behind_to, behind_from}

module _ {know : Knowledge} {problem : Setup} {history : List Event} (knows : KnowsAfter know problem history) where
  scores_are : know.round.scores ≡ scores_after (start_of problem) (filled_record (start_of problem) (history_letters history))
  scores_are = ap (λ (k : Knowledge). k.round.scores) knows.knowledge

  full_same : (dealt : Dealt) → outcome_for problem dealt know.round.scores ≡ outcome_of (full_behind problem history dealt)
  full_same dealt = ap (λ (s : Scores). outcome_for problem dealt s) scores_are

  -- the scores do not decide if not all deals meet the demand, nor none: so four ranks were shown
  pub four_shown : know.round.asked ≡ turns.Over → (demand : Demand) {all none : Bool} →
      (are_decided (target_of problem) know.round.scores ≡ true → IsMetByAll demand ⊎ IsMetByNone demand) →
      (all ≡ true) ↔ IsMetByAll demand → all ≡ false → (none ≡ true) ↔ IsMetByNone demand → none ≡ false → length (their_ranks history) ≡ 4
  four_shown over demand {all} {none} decided is_all not_all is_none not_none =
      let still : are_decided (target_of problem) know.round.scores ≡ false = false_from_ne_true _ (λ d. elim (decided d) [
        | inl met ↦ both_ways all not_all (is_all.1 met)
        | inr missed ↦ both_ways none not_none (is_none.1 missed)
      ]) in
      let parts = or_parts _ _ still in
      four_played knows over (leb-false (target_of problem) know.round.scores.owner parts.0) (leb-false game_hole know.round.scores.opponent parts.1)

-- what the show demands, by the points of the owner's hand
module _ {know : Knowledge} {problem : Setup} (demand : Demand) {own : ℕ}
    (shown : own ≡ hand_points problem.hold problem.starter → IsDemandAtEnd problem know demand) (own_is : own ≡ hand_points problem.hold problem.starter) where
  abbrev AllMeetIt : List Event → Type 0
  AllMeetIt history = (dealt : Dealt) → AgreesWith problem history dealt → is_met_by (worst_of problem know) demand dealt ≡ true

  -- each deal meets the demand if each one reaches the goal, and the other way round
  reached_if : {history : List Event} → KnowsAfter know problem history → AllMeetIt history → IsReachedBehind problem history
  reached_if knows all dealt agrees = sym (full_same knows dealt) ∙ (shown own_is _ dealt knows agrees).0 (all dealt agrees)

  met_if : {history : List Event} → KnowsAfter know problem history → IsReachedBehind problem history → AllMeetIt history
  met_if knows reached dealt agrees = (shown own_is _ dealt knows agrees).1 (full_same knows dealt ∙ reached dealt agrees)

  -- the scores decide
  pub all_reach : IsMetByAll demand → (history : List Event) → KnowsAfter know problem history → (true ≡ true) ↔ IsReachedBehind problem history
  all_reach all history knows =
      (λ h. reached_if knows (λ dealt agrees. all_meet knows.setup agrees.0 demand all), λ reached. refl)

  pub none_reaches : IsMetByNone demand → (history : List Event) → KnowsAfter know problem history → (false ≡ true) ↔ IsReachedBehind problem history
  none_reaches none history knows = (
    λ h. absurd (both_ways false refl h),
    λ reached. absurd (both_ways _ (none_meets knows.setup knows.possible.1.0 demand none) (met_if knows reached knows.possible.0 knows.possible.1)),
  )

  -- the show does
  pub end_is : {history : List Event} → KnowsAfter know problem history → length (their_ranks history) ≡ 4 → {met : Bool} →
      (met ≡ true) ↔ AllMeet (worst_of problem know) demand → (met ≡ true) ↔ IsReachedBehind problem history
  end_is knows four is = (
    λ h. reached_if knows (λ dealt agrees. is.0 h dealt (behind_to knows four dealt agrees)),
    λ reached. is.1 (λ dealt agrees. met_if knows reached dealt (behind_from knows four dealt agrees)),
  )
