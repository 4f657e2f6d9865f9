use Rattle.std.proofs.Common.{◌≡◌, ◌+◌, ◌*◌, length}
use Rattle.crib_know.specs.Private.Ahead.{turns_ahead}
use Rattle.crib_beaten.specs.Private.Demands.{AreJoined}
use Rattle.crib_beaten.proofs.DemandsByTurns.{IsDemandBelow}
use Rattle.crib_beaten.proofs.plays.Plays.+demand.Given as goal

abbrev pub decreases-join_from : goal.decreases-join_from
decreases-join_from g l = 3 * turns_ahead l.key.now.know + 2

abbrev pub decreases-join_by_own : goal.decreases-join_by_own
decreases-join_by_own g l = 3 * turns_ahead l.key.now.know + 1

abbrev pub decreases-join_by_theirs : goal.decreases-join_by_theirs
decreases-join_by_theirs g l = 3 * turns_ahead l.key.now.know + 1

abbrev pub decreases-join_after : goal.decreases-join_after
decreases-join_after g l = 3 * turns_ahead l.key.now.know

abbrev pub invariant-join_by_theirs-loop-index : goal.invariant-join_by_theirs-loop-index
invariant-join_by_theirs-loop-index g l = record {
  joined : AreJoined (λ counts. IsDemandBelow l.fn.self.problem.now l.fn.self.plan.now l.fn.key counts l.index) l.fn.self.choices.now l.fn.indices
      l.fn.demands l.demands;
  room : length l.spare ≡ length l.fn.spare;
}
