use Rattle.crib_bound.proofs.GradeCounts.{AreAddedBelow}
use Rattle.crib_bound.proofs.weights.add_grades.Given as goal

abbrev pub invariant-loop-grade : goal.invariant-loop-grade
invariant-loop-grade l = AreAddedBelow l.table l.ladder l.grade l.fn.weights l.weights
