-- The hidden deals that are possible in the show, and whether each of them reaches the goal.
use Rattle.std.specs.Prelude.{◌≡◌, ◌↔◌, ◌++◌, Bool, List, IsTrue}
use Rattle.crib_cards.specs.Sets.{set_of}
use Rattle.crib_cards.specs.declared.sides.Dealt.{Dealt}
use Rattle.crib_play.specs.Score.{scores_after}
use Rattle.crib_play.specs.Filled.{filled_record}
use Rattle.crib_play.specs.History.{Event, history_letters}
use Rattle.crib_show.specs.declared.deals.Full.{Full}
use Rattle.crib_show.specs.declared.deals.WorstShow.{WorstShow}
use Rattle.crib_show.specs.declared.worst.extremes.ExtremesByRanks.{ExtremesByRanks}
use Rattle.crib_show.specs.Extremes.{AreExtremes}
use Rattle.crib_show.specs.Demands.{is_met, is_met_by}
use Rattle.crib_show.specs.Show.{crib_points, hand_points}
use Rattle.crib_show.specs.Outcome.{outcome_of}
use Rattle.crib_show.specs.declared.demands.Demand.{Demand}
use Rattle.crib_show.specs.declared.show.outcomes.Outcome.TheVariants.{Reached}
use Rattle.crib_problem.specs.Setup.{Setup, start_of, unseen_of, fixed_cards, target_of, is_stop}
use Rattle.crib_know.specs.Knowledge.{Knowledge}
use Rattle.crib_know.specs.Hidden.{AgreesWith, KnowsAfter}
use Rattle.crib_game.specs.Replay.{full_with, outcome_for}
use Rattle.crib_sure.specs.declared.shows.Shows.{Shows}

-- the hidden deals that agree with what is known, once all cards are played
abbrev pub worst_of : Setup → Knowledge → WorstShow
worst_of problem know = record {
  dealer = problem.dealer;
  scores = know.round.scores;
  target = target_of problem;
  starter = problem.starter;
  own_hold = problem.hold;
  own_throw = problem.thrown;
  ranks = know.ranks_seen;
  unseen = unseen_of problem;
  fixed = know.fixed;
  stop = is_stop problem.goal;
}

-- the table of counted shows is right for the problem, whatever the scores are
abbrev pub AreExtremesOf : Setup → ExtremesByRanks → Type 0
AreExtremesOf problem shows =
    AreExtremes problem.starter problem.hold problem.thrown (unseen_of problem) (set_of (fixed_cards problem)) shows

-- these are shows of the problem: the show is that of some knowledge, and the table of counted shows is right
abbrev pub AreShowsOf : Setup → Shows → Type 0
AreShowsOf problem shows =
    AreExtremesOf problem shows.extremes × ((know : Knowledge) × (shows.worst ≡ worst_of problem know))

-- all that the show depends on, if these are the hidden cards
abbrev pub full_behind : Setup → List Event → Dealt → Full
full_behind problem history dealt =
    full_with problem dealt (scores_after (start_of problem)
    (filled_record (start_of problem) (history_letters history)))

-- whether a deal of a problem meets a demand
abbrev pub meets : Setup → Demand → Dealt → Bool
meets problem demand dealt =
    is_met demand (hand_points dealt.hold problem.starter)
    (crib_points (problem.thrown ++ dealt.throw) problem.starter)

-- of the deals that agree with a history after which this is known, exactly those meet the demand that reach the goal.
-- It is used only for a deal that is done
abbrev pub IsDemandAtEnd : Setup → Knowledge → Demand → Type 0
IsDemandAtEnd problem know demand =
    (history : List Event) (dealt : Dealt) → KnowsAfter know problem history → AgreesWith problem history dealt
    → IsTrue (is_met_by (worst_of problem know) demand dealt)
    ↔ (outcome_for problem dealt know.round.scores ≡ Reached)

-- each deal that agrees with the history has the outcome Reached. It is used only for a deal that is done
abbrev pub IsReachedBehind : Setup → List Event → Type 0
IsReachedBehind problem history =
    (dealt : Dealt) → AgreesWith problem history dealt → outcome_of (full_behind problem history dealt) ≡ Reached
