use Rattle.std.proofs.Common.{◌≡◌}
use Rattle.crib_bound.specs.Private.Walks.{with_parts}
use Rattle.crib_bound.proofs.entries.put_parts.Given as goal

abbrev pub invariant-loop-at : goal.invariant-loop-at
invariant-loop-at l = l.amounts ≡ with_parts l.indices l.parts l.at l.fn.amounts
