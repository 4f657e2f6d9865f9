use Rattle.crib_tables.proofs.ScoreTables.{AreSoFar}
use Rattle.crib_tables.proofs.scores.scores_around.Given as goal

abbrev pub invariant-loop-step : goal.invariant-loop-step
invariant-loop-step l = AreSoFar l.first l.step l.scores.items
