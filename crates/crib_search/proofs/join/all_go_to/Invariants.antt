use Rattle.std.proofs.Common.{◌≡◌, drop}
use Rattle.std.specs.List.{list_all}
use Rattle.crib_search.specs.Private.Nodes.{goes_to}
use Rattle.crib_search.proofs.join.all_go_to.Given as goal

abbrev pub invariant-loop-next : goal.invariant-loop-next
invariant-loop-next l = list_all (goes_to l.index) l.nexts ≡ list_all (goes_to l.index) (drop l.next-index l.nexts)
