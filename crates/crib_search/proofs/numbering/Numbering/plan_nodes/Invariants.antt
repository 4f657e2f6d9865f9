use Rattle.std.proofs.Common.{◌≡◌, take}
use Rattle.crib_search.specs.Private.Numbers.{nodes_of_indices}
use Rattle.crib_search.proofs.numbering.Numbering.plan_nodes.Given as goal

abbrev pub invariant-loop-number : goal.invariant-loop-number
invariant-loop-number g l = l.plan.items ≡ nodes_of_indices l.self.draft_nodes l.self.left (take l.number l.self.left)
