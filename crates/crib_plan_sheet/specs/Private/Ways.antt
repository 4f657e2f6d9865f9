-- How often the nodes of a plan are led to, while that is counted.
use Rattle.std.specs.Prelude.{◌≡◌, ℕ, ◌+◌, ◌<◌, min, Bool, true, false, List, length, slice_get}
use Rattle.std.specs.Prelude.{unwrap_or, count_by, if◌then◌else◌}
use Rattle.crib_plan.specs.declared.plan.Next.{Next}
use Rattle.crib_plan.specs.declared.plan.Node.{Node}
use Rattle.crib_plan_sheet.specs.PlanBranches.{node_leads}
use Rattle.crib_plan_sheet.specs.PlanOutline.{is_among}

-- the number of nodes that lead to a node, at most 2
abbrev pub ways_in : List ℕ → ℕ → ℕ
ways_in ways node = unwrap_or (slice_get ways node) 2

-- such a number, after one more node that may lead there
abbrev pub one_more : ℕ → Bool → ℕ
one_more count true = min 2 (count + 1)
one_more count false = count

-- the number of nodes of a plan that lead to a node, at most 2
abbrev pub ways_to : List Node → ℕ → ℕ
ways_to nodes node = min 2 (count_by (node_leads node) nodes)

-- each node's number is that of the nodes that lead to it, at most 2
pub record AreCounted (nodes : List Node) (ways : List ℕ) : Type 0 where
  pub counted : (node : ℕ) → node < length nodes → ways_in ways node ≡ ways_to nodes node

-- this number, but 2 for each node among these places, which get paragraphs of their own
abbrev pub ways_or_named : List Next → ℕ → ℕ → ℕ
ways_or_named named node ways = if is_among named node then 2 else ways
