-- The first deal that misses the goal at the end of the play.
use Rattle.std.proofs.Common.{◌≡◌, true, ◌↔◌, List, length, Option, Some, None, MatchOption, refl, ap, ◌∙◌}
use Rattle.std.proofs.lemmas.Bool.{both_ways, false_from_ne_true}
use Rattle.crib_cards.specs.declared.sides.Dealt.{Dealt}
use Rattle.crib_cards.specs.declared.sides.Scores.{Scores}
use Rattle.crib_play.specs.History.{Event, history_letters}
use Rattle.crib_play.specs.Filled.{filled_record}
use Rattle.crib_play.specs.Score.{scores_after}
use Rattle.crib_show.specs.Demands.{IsFirstMissingOrNone, IsMetByNone}
use Rattle.crib_show.specs.declared.demands.Demand.{Demand}
use Rattle.crib_show.specs.declared.deals.WorstShow.{WorstShow}
use Rattle.crib_problem.specs.Setup.{Setup, start_of}
use Rattle.crib_know.specs.Knowledge.{Knowledge, their_ranks}
use Rattle.crib_know.specs.Hidden.{KnowsAfter, IsFirstDeal}
use Rattle.crib_game.specs.Replay.{outcome_for}
use Rattle.crib_sure.specs.Shows.{IsDemandAtEnd, IsReachedBehind, worst_of}
use Rattle.crib_sure.proofs.PointsOfDeals.{none_meets}
use Rattle.crib_sure.proofs.ShowsBehind.{behind_to, behind_from}
use Rattle.crib_check.specs.Private.Positions.{AllReach, IsFirstShortfall}

module _ {problem : Setup} {know : Knowledge} {history : List Event} (knows : KnowsAfter know problem history) where
  abbrev behind : WorstShow
  behind = worst_of problem know

  scores_are : know.round.scores ≡ scores_after (start_of problem) (filled_record (start_of problem) (history_letters history))
  scores_are = ap (λ (k : Knowledge). k.round.scores) knows.knowledge

  pub all_reach : IsReachedBehind problem history → AllReach problem history know.round
  all_reach reached dealt agrees = ap (λ (s : Scores). outcome_for problem dealt s) scores_are ∙ reached dealt agrees

  -- what the show demands
  module _ (demand : Demand) (shown : IsDemandAtEnd problem know demand) where
    -- no deal meets it, and so the first deal that agrees is the first that falls short
    pub none_met : {dealt : Dealt} → IsMetByNone demand → IsFirstDeal problem history dealt → IsFirstShortfall problem history know.round dealt
    none_met {dealt} none first = record {
      agrees = first.agrees;
      fails = λ reached. both_ways _ (none_meets knows.setup first.agrees.0 demand none) ((shown history dealt knows first.agrees).1 reached);
      in_order = first.in_order;
      first = λ other agrees fails. first.first other agrees;
    }

    pub short_by : length (their_ranks history) ≡ 4 → (result : Option Dealt) → IsFirstMissingOrNone behind demand result →
        MatchOption result (AllReach problem history know.round) (IsFirstShortfall problem history know.round)
    short_by four None all = λ dealt agrees. (shown history dealt knows agrees).0 (all dealt (behind_to knows four dealt agrees))
    short_by four (Some dealt) first =
        let here = behind_from knows four dealt first.agrees in record {
          agrees = here;
          fails = λ reached. both_ways _ first.misses ((shown history dealt knows here).1 reached);
          in_order = first.in_order;
          first = λ other agrees fails. first.first other (behind_to knows four other agrees)
              (false_from_ne_true _ (λ met. fails ((shown history other knows agrees).0 met)));
        }

-- all deals reach the goal
pub all_met : {problem : Setup} {know : Knowledge} →
    ((history : List Event) → KnowsAfter know problem history → (true ≡ true) ↔ IsReachedBehind problem history) →
    (history : List Event) → KnowsAfter know problem history → AllReach problem history know.round
all_met reached history knows = all_reach knows ((reached history knows).0 refl)
