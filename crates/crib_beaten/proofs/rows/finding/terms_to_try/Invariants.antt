use Rattle.std.proofs.Common.{◌≤◌, length}
use Rattle.crib_beaten.proofs.rows.finding.terms_to_try.Given as goal

abbrev pub invariant-loop-count : goal.invariant-loop-count
invariant-loop-count l = length l.terms.items ≤ l._count
