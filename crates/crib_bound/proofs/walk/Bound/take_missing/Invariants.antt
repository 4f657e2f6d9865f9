use Rattle.crib_bound.specs.Private.Walks.{AreCounted}
use Rattle.crib_bound.proofs.walk.Bound.take_missing.Given as goal

abbrev pub invariant-loop-index : goal.invariant-loop-index
invariant-loop-index l = AreCounted l.self l.demand l.indices l.fn.amounts l.amounts l.sum
