use Rattle.std.proofs.Common.{◌≤◌}
use Rattle.crib_beaten.proofs.rows.finding.with_any_cards.Given as goal

abbrev pub invariant-loop-count : goal.invariant-loop-count
invariant-loop-count l = l.slot ≤ l._count
