-- The walk over kept nodes leaves the nodes of the trees that the walk of the tree leaves.
use Rattle.std.proofs.Common.{◌≡◌, ℕ, ◌+◌, ◌<◌, ◌≤◌, true, false, is_some, List, [], ◌∷◌, length, Option, Some}
use Rattle.std.proofs.Common.{None}
use Rattle.std.proofs.Common.{refl, sym, subst, ◌∙◌, inl, inr, arith}
use Rattle.std.specs.Prelude.{slice_get}
use Rattle.std.proofs.Math.ListN.{set, length-set}
use Rattle.std.proofs.lemmas.List.Elements.{All-from_recursion, All-weaker, recursion_from_All}
use Rattle.std.proofs.lemmas.List.{get_or-set_same, get_or-set_other}
use Rattle.std.proofs.lemmas.Bool.Decides.{nat_tests}
use Rattle.std.proofs.lemmas.Bool.{cases_eq, eq-eqb, ne_eqb}
use Rattle.crib_search.specs.declared.nodes.DraftPlace.{DraftPlace}
use Rattle.crib_search.specs.declared.nodes.DraftPlace.TheVariants.{End, At}
use Rattle.crib_search.specs.declared.nodes.DraftNode.{DraftNode}
use Rattle.crib_search.specs.declared.nodes.DraftNode.TheVariants.{Play, See}
use Rattle.crib_search.specs.Trees.{Tree, Finish, Plays, Sees, NoBranch, Branch, trees_after_walk}
use Rattle.crib_search.specs.Private.Nodes.{IsEarlier, IsBelow, AreKept, Names}
use Rattle.crib_search.specs.Private.Numbers.{AreLeft, AreMarks, mark_of, IsWalk, IsWalkAll, IsWalkBelow, WalksDraftNode}
use Rattle.crib_search.proofs.JoinedTrees.{end_names}
use Rattle.crib_search.proofs.KeptNodes.{same_for}
use Rattle.crib_search.proofs.TreeWalks.{is_in}

-- ---- marks
-- a tree is among those that were left exactly where its index is marked
pub left_in : (draft_nodes : List DraftNode) → AreKept draft_nodes → (tree : Tree) (index : ℕ) → Names draft_nodes tree (At index) →
    (trees : List Tree) (left : List ℕ) →
    AreLeft draft_nodes trees left → is_in tree trees ≡ is_some (mark_of index left)
left_in draft_nodes kept tree index names [] [] are = refl
left_in draft_nodes kept tree index names (other ∷ trees) (at ∷ left) are =
    grind (arith, nat_tests, same_for draft_nodes kept tree other index at names are.0, left_in draft_nodes kept tree index names trees left are.1)
left_in draft_nodes kept tree index names trees left are = absurd are

pub marks_left : (marks : List (Option ℕ)) (index : ℕ) (left after : List ℕ) (count : ℕ) → AreMarks marks left → index < length marks → count ≡ length left →
    after ≡ index ∷ left → AreMarks (set marks index (Some count)) after
marks_left marks index left after count are within same goes other inside =
    elim (cases_eq index other) [
      | inl e ↦ rw (goes, ← e, get_or-set_same marks index (Some count) None within, eq-eqb index index refl, same)
      | inr ne ↦
          rw (goes, get_or-set_other marks index other (Some count) None (λ e. ne (sym e)), ne_eqb index other ne)
          (are other (omega (arith, inside, length-set marks index (Some count))))
    ]

-- ---- walks
pub walk_default : (draft_nodes : List DraftNode) (draft_place : DraftPlace) (left : List ℕ) → ((index : ℕ) → draft_place ≡ At index → ⊥) →
    IsWalk draft_nodes draft_place left left
walk_default draft_nodes End left not tree trees names are = rw (end_names draft_nodes tree names) are
walk_default draft_nodes (At index) left not tree trees names are = absurd (not index refl)

walked_there : (tree : Tree) (trees : List Tree) → is_in tree trees ≡ true → trees_after_walk tree trees ≡ trees
walked_there Finish trees there = refl
walked_there tree trees there = rw there

module _ (draft_nodes : List DraftNode) (kept : AreKept draft_nodes) (index : ℕ) (before : List ℕ) where
  -- a node that was left is not walked again
  pub walk_again : is_some (mark_of index before) ≡ true → IsWalk draft_nodes (At index) before before
  walk_again marked tree trees names left =
      rw (walked_there tree trees (left_in draft_nodes kept tree index names trees before left ∙ marked)) left

  -- any other node is left after all that it leads to
  pub walk_new : is_some (mark_of index before) ≡ false → (inside after : List ℕ) → IsWalkBelow draft_nodes index before inside → after ≡ index ∷ inside →
      IsWalk draft_nodes (At index) before after
  walk_new new inside after below goes tree trees names left =
      rw goes (by_tree tree names (left_in draft_nodes kept tree index names trees before left ∙ new))
    where
      by_tree : (tree : Tree) → Names draft_nodes tree (At index) → is_in tree trees ≡ false →
          AreLeft draft_nodes (trees_after_walk tree trees) (index ∷ inside)
      by_tree Finish names absent = absurd cc
      by_tree (Plays card next) names absent =
          rw absent (names, below (Play card names.1) (cc (names.2, names.3)) next trees names.4 left)
      by_tree (Sees branches) names absent =
          rw absent (names, below (See names.1) (cc (names.2, names.3)) branches trees names.4 left)

-- ---- walks from some places
pub walk_none : (draft_nodes : List DraftNode) (left : List ℕ) → IsWalkAll draft_nodes [] left left
walk_none draft_nodes left NoBranch trees names are = are
walk_none draft_nodes left (Branch tree branches) trees names are = absurd (cc (names.2))

pub walk_more : (draft_nodes : List DraftNode) (draft_place : DraftPlace) (others : List DraftPlace) (before inside after : List ℕ) →
    IsWalk draft_nodes draft_place before inside → IsWalkAll draft_nodes others inside after → IsWalkAll draft_nodes (draft_place ∷ others) before after
walk_more draft_nodes draft_place others before inside after first rest NoBranch trees names are = absurd cc
walk_more draft_nodes draft_place others before inside after first rest (Branch tree branches) trees names are =
    let here : draft_place ≡ names.0 = cc (names.2) in
    let there : others ≡ names.1 = cc (names.2) in
    rest branches (trees_after_walk tree trees) (rw there names.4) (first tree trees (rw here names.3) are)

-- ---- how far a walk may still go
-- how many nodes are kept up to that of a place
abbrev pub height : DraftPlace → ℕ
height End = 0
height (At index) = index + 1

pub below_height : (count : ℕ) (draft_place : DraftPlace) → IsEarlier count draft_place → height draft_place ≤ count
below_height count End earlier = omega arith
below_height count (At index) earlier = omega (arith, earlier)

pub earlier_more : (count most : ℕ) (draft_place : DraftPlace) → count ≤ most → IsEarlier count draft_place → IsEarlier most draft_place
earlier_more count most End le earlier = tt
earlier_more count most (At index) le earlier = omega (arith, le, earlier)

pub below_more : (count most : ℕ) (draft_node : DraftNode) → count ≤ most → IsBelow count draft_node → IsBelow most draft_node
below_more count most (Play card next) le below = earlier_more count most next le below
below_more count most (See nexts) le below =
    let all = All-from_recursion (IsEarlier count) nexts below.1 in
    (below.0, recursion_from_All (IsEarlier most) nexts (All-weaker (IsEarlier count) (IsEarlier most) (λ next. earlier_more count most next le) nexts all))

-- the node that is kept at an index
pub walks_at : {draft_nodes now : List DraftNode} (index : ℕ) {draft_node : DraftNode} (before after : List ℕ) → now ≡ draft_nodes →
    slice_get now index ≡ Some draft_node → WalksDraftNode draft_nodes draft_node before after → IsWalkBelow draft_nodes index before after
walks_at {draft_nodes} {now} index {draft_node} before after same there walks other is =
    let here : draft_node ≡ other = cc in
    subst (λ node. WalksDraftNode draft_nodes node before after) here walks
