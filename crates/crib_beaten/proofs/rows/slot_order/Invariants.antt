use Rattle.std.proofs.Common.{◌≤◌}
use Rattle.crib_beaten.proofs.rows.slot_order.Given as goal

abbrev pub invariant-loop-rank : goal.invariant-loop-rank
invariant-loop-rank l = (l.count ≤ l.rank) × (l.first ≤ 13)
