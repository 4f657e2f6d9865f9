-- The numbers that the code gives to the nodes of a plan, from a walk over the kept nodes. `plan_of_tree` defines the
-- same for trees. A walk leaves a node after all nodes that the node leads to.
use Rattle.std.specs.Prelude.{◌≡◌, ℕ, ◌-◌, ◌<◌, ◌==◌, List, [], ◌∷◌, length, map, slice_get, flat_map}
use Rattle.std.specs.Prelude.{slice_index_or}
use Rattle.std.specs.Prelude.{Option, Some, None, if◌then◌else◌}
use Rattle.std.specs.List.{AllZip}
use Rattle.crib_plan.specs.declared.plan.Next.{Next}
use Rattle.crib_plan.specs.declared.plan.Next.TheVariants as next
use Rattle.crib_plan.specs.declared.plan.Node.{Node}
use Rattle.crib_plan.specs.declared.plan.Node.TheVariants as node
use Rattle.crib_search.specs.declared.nodes.DraftPlace.{DraftPlace}
use Rattle.crib_search.specs.declared.nodes.DraftPlace.TheVariants.{End, At}
use Rattle.crib_search.specs.declared.nodes.DraftNode.{DraftNode}
use Rattle.crib_search.specs.declared.nodes.DraftNode.TheVariants.{Play, See}
use Rattle.crib_search.specs.Trees.{Tree, Branches, trees_after_walk, trees_after_walks}
use Rattle.crib_search.specs.Private.Nodes.{Names, NameAll}

-- what a walk has done: the kept nodes that it goes over, and the indices of those that it left, the last one first
pub record Walked : Type 0 where
  pub draft_nodes : List DraftNode
  pub left : List ℕ

-- the nodes that a walk left represent these trees; both lists have the last one first
abbrev pub AreLeft : List DraftNode → List Tree → List ℕ → Type 0
AreLeft draft_nodes trees left = AllZip (λ tree index. Names draft_nodes tree (At index)) trees left

-- how many nodes the walk left before it left this one; none, if it did not leave it. The list has the last one first
abbrev pub mark_of : ℕ → List ℕ → Option ℕ
mark_of index [] = None
mark_of index (other ∷ left) = if other == index then Some (length left) else mark_of index left

-- each index is marked with how many nodes were left before its own, or with none if that was not left
abbrev pub AreMarks : List (Option ℕ) → List ℕ → Type 0
AreMarks marks left = (index : ℕ) → index < length marks → slice_index_or marks index None ≡ mark_of index left

-- a walk from a place. If the place names a tree, and the nodes left before represent some trees, then the nodes left
-- after represent the trees after a walk of this tree
abbrev pub IsWalk : List DraftNode → DraftPlace → List ℕ → List ℕ → Type 0
IsWalk draft_nodes draft_place before after =
    (tree : Tree) (trees : List Tree) → Names draft_nodes tree draft_place → AreLeft draft_nodes trees before →
    AreLeft draft_nodes (trees_after_walk tree trees) after

-- a walk from some places, one after another: the same for the branches that the places name
abbrev pub IsWalkAll : List DraftNode → List DraftPlace → List ℕ → List ℕ → Type 0
IsWalkAll draft_nodes draft_places before after =
    (branches : Branches) (trees : List Tree) → NameAll draft_nodes branches draft_places →
    AreLeft draft_nodes trees before →
    AreLeft draft_nodes (trees_after_walks branches trees) after

-- a walk from all places that a node leads to
abbrev pub WalksDraftNode : List DraftNode → DraftNode → List ℕ → List ℕ → Type 0
WalksDraftNode draft_nodes (Play card next) before after = IsWalk draft_nodes next before after
WalksDraftNode draft_nodes (See nexts) before after = IsWalkAll draft_nodes nexts before after

-- a walk from all places that the node at an index leads to
abbrev pub IsWalkBelow : List DraftNode → ℕ → List ℕ → List ℕ → Type 0
IsWalkBelow draft_nodes index before after =
    (draft_node : DraftNode) → slice_get draft_nodes index ≡ Some draft_node →
    WalksDraftNode draft_nodes draft_node before after

-- where a plan goes on for a mark. The node that was left last has number 0
abbrev pub number_for : ℕ → Option ℕ → Next
number_for count None = next.End
number_for count (Some mark) = next.To (count - 1 - mark)

-- where the plan goes on for a place
abbrev pub next_for : List ℕ → DraftPlace → Next
next_for left End = next.End
next_for left (At index) = number_for (length left) (mark_of index left)

-- the node of the plan for a kept node
abbrev pub node_for : List ℕ → DraftNode → Node
node_for left (Play card next) = node.Play card (next_for left next)
node_for left (See nexts) = node.See (map (next_for left) nexts)

-- the node of the plan as a list: empty, if no node is kept there
abbrev pub nodes_at : List ℕ → Option DraftNode → List Node
nodes_at left None = []
nodes_at left (Some draft_node) = node_for left draft_node ∷ []

-- the nodes of the plan for some of the nodes that the walk left
abbrev pub nodes_of_indices : List DraftNode → List ℕ → List ℕ → List Node
nodes_of_indices draft_nodes left indices = flat_map (λ index. nodes_at left (slice_get draft_nodes index)) indices
