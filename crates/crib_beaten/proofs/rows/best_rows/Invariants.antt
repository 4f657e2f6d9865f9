use Rattle.std.proofs.Common.{◌≤◌, length}
use Rattle.crib_beaten.proofs.RowFigures.{AreSoFar}
use Rattle.crib_beaten.proofs.rows.best_rows.Given as goal

abbrev pub invariant-loop-count : goal.invariant-loop-count
invariant-loop-count l = record {
  so_far : AreSoFar l.tried l.tallied l.beaten l.left.items l.rows.items l.others;
  count : length l.rows.items ≤ l._count;
}
