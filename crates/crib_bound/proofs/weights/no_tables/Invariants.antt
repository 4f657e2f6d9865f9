use Rattle.std.proofs.Common.{◌≡◌, ℕ, None, get_or}
use Rattle.crib_bound.proofs.weights.no_tables.Given as goal

abbrev pub invariant-loop-index : goal.invariant-loop-index
invariant-loop-index g l = (index : ℕ) → get_or l.tables.items index None ≡ None
