use Rattle.std.proofs.Common.{◌≡◌, drop}
use Rattle.crib_search.specs.Private.Nodes as spec
use Rattle.crib_search.proofs.join.first_node.Given as goal

abbrev pub invariant-loop-next : goal.invariant-loop-next
invariant-loop-next l = spec.first_node l.nexts ≡ spec.first_node (drop l.next-index l.nexts)
