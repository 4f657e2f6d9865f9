-- The branches of a plan, and which nodes lead to a node.
use Rattle.std.specs.Prelude.{ℕ, Bool, List, [], length}
use Rattle.std.specs.List.{list_any, sum_by}
use Rattle.crib_plan.specs.declared.plan.Node.{Node}
use Rattle.crib_plan.specs.declared.plan.Node.TheVariants.{Play, See}
use Rattle.crib_plan.specs.Spelling.{leads_to, nodes_of}

-- whether a node leads to the node with a number
abbrev pub node_leads : ℕ → Node → Bool
node_leads number (Play card next) = leads_to number next
node_leads number (See branches) = list_any (leads_to number) branches

-- the branches of a node, as the line of a plan has them: one for each node that letters lead to
abbrev pub branch_count : Node → ℕ
branch_count (Play card next) = 0
branch_count (See branches) = length (nodes_of [] branches)

-- the branches of a plan
abbrev pub plan_branches : List Node → ℕ
plan_branches plan = sum_by branch_count plan
