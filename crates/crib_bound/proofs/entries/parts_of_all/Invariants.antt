use Rattle.std.proofs.Common.{◌≤◌, ℕ, get_or}
use Rattle.crib_bound.proofs.entries.parts_of_all.Given as goal

abbrev pub invariant-loop-index : goal.invariant-loop-index
invariant-loop-index l = (index : ℕ) → get_or l.amounts index 0 ≤ l.parts
