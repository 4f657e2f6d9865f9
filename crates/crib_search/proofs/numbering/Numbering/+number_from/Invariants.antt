use Rattle.std.proofs.Common.{◌≡◌, ◌+◌, ◌*◌, List, ℕ, drop}
use Rattle.crib_search.specs.Private.Numbers.{IsWalkAll}
use Rattle.crib_search.proofs.NodeWalks.{height}
use Rattle.crib_search.proofs.numbering.Numbering.+number_from.Given as goal

abbrev pub decreases-number_from : goal.decreases-number_from
decreases-number_from g l = 2 * height l.draft_place

abbrev pub decreases-number_below : goal.decreases-number_below
decreases-number_below g l = 2 * l.index + 1

-- what the walk from the other places still leaves, the walk from all places leaves
abbrev pub invariant-number_below-loop-draft_place : goal.invariant-number_below-loop-draft_place
invariant-number_below-loop-draft_place g l = record {
  same : l.self.draft_nodes ≡ l.fn.self.draft_nodes;
  walk : (after : List ℕ) → IsWalkAll l.fn.self.draft_nodes (drop l.draft_place-index l.draft_place-items) l.self.left after →
      IsWalkAll l.fn.self.draft_nodes l.draft_place-items l.fn.self.left after;
}
