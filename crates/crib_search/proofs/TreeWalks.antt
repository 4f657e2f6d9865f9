-- The walk of a tree, and the plan that it numbers.
use Rattle.std.proofs.Common.{◌≡◌, ◌⊎◌, ℕ, ◌+◌, ◌<◌, ◌≤◌, Bool, true, false, List, [], ◌∷◌, map, Some, slice_get, add-one, refl, ap}
use Rattle.std.proofs.Common.{inl, inr, arith}
use Rattle.std.specs.List.{list_any, flat_map}
use Rattle.std.proofs.lemmas.Bool.{cases_Bool, false_from_ne_true, or_cases, or_left, or_right, both_ways}
use Rattle.crib_plan.specs.declared.plan.Node.{Node}
use Rattle.crib_plan.specs.declared.plan.Node.TheVariants.{Play, See}
use Rattle.crib_plan.specs.Places.{plan_start}
use Rattle.crib_search.specs.Trees.{Tree, Finish, Plays, Sees, Branches, NoBranch, Branch, trees_of, same_tree, trees_with, trees_after_walk, trees_after_walks}
use Rattle.crib_search.specs.Trees.{number_of}
use Rattle.crib_search.specs.Trees.{place_of_tree, nodes_for, plan_of_trees, plan_of_tree}
use Rattle.crib_search.proofs.Trees.{same_is, same_self}
use Rattle.crib_search.proofs.PlacesOfTrees.{Stands, StandAll}

-- ---- trees that all lead to later ones
abbrev pub is_in : Tree → List Tree → Bool
is_in tree trees = list_any (same_tree tree) trees

-- a tree that is the end, or is among some trees
abbrev pub Placed : Tree → List Tree → Type 0
Placed Finish trees = Unit {0}
Placed (Plays card next) trees = is_in (Plays card next) trees ≡ true
Placed (Sees branches) trees = is_in (Sees branches) trees ≡ true

abbrev pub AllPlaced : Branches → List Tree → Type 0
AllPlaced NoBranch trees = Unit {0}
AllPlaced (Branch tree branches) trees = Placed tree trees × AllPlaced branches trees

-- a tree is not the end, and each tree that it leads to is the end or among some trees
abbrev pub Leads : Tree → List Tree → Type 0
Leads Finish trees = ⊥
Leads (Plays card next) trees = Placed next trees
Leads (Sees branches) trees = AllPlaced branches trees

-- each tree is there once, and leads to later ones
abbrev pub IsClosed : List Tree → Type 0
IsClosed [] = Unit {0}
IsClosed (tree ∷ trees) = (is_in tree trees ≡ false) × Leads tree trees × IsClosed trees

-- ---- more trees
abbrev pub IsMore : List Tree → List Tree → Type 0
IsMore before after = (tree : Tree) → is_in tree before ≡ true → is_in tree after ≡ true

pub placed_more : (before after : List Tree) → IsMore before after → (tree : Tree) → Placed tree before → Placed tree after
placed_more before after more Finish placed = tt
placed_more before after more tree placed = more tree placed

pub all_more : (before after : List Tree) → IsMore before after → (branches : Branches) → AllPlaced branches before → AllPlaced branches after
all_more before after more NoBranch placed = tt
all_more before after more (Branch tree branches) placed = (placed_more before after more tree placed.0, all_more before after more branches placed.1)

pub leads_more : (before after : List Tree) → IsMore before after → (tree : Tree) → Leads tree before → Leads tree after
leads_more before after more Finish leads = leads
leads_more before after more (Plays card next) leads = placed_more before after more next leads
leads_more before after more (Sees branches) leads = all_more before after more branches leads

one_more : (tree : Tree) (trees : List Tree) → IsMore trees (tree ∷ trees)
one_more tree trees other h = or_right (same_tree other tree) (is_in other trees) h

-- ---- the size of a tree
abbrev mutual
  pub size : Tree → ℕ
  size Finish = 0
  size (Plays card next) = size next + 1
  size (Sees branches) = sizes branches + 1

  pub sizes : Branches → ℕ
  sizes NoBranch = 0
  sizes (Branch tree branches) = size tree + sizes branches

-- ---- the walk
record IsWalked (before after : List Tree) (most : ℕ) : Type 0 where
  closed : IsClosed after
  more : IsMore before after
  small : (tree : Tree) → is_in tree after ≡ true → (is_in tree before ≡ true) ⊎ (size tree ≤ most)

leave : (tree : Tree) (before inside : List Tree) (most : ℕ) → IsClosed before → IsWalked before inside most → most < size tree → Leads tree inside →
    IsWalked before (trees_with tree before inside) (size tree) × (is_in tree (trees_with tree before inside) ≡ true)
leave tree before inside most closed walk bigger leads =
    elim (cases_Bool (is_in tree before)) [
      | inl there ↦ rw there (record { closed = closed; more = λ other h. h; small = λ other h. inl h }, there)
      | inr new ↦
          rw new (
            record {
              closed = (absent new, leads, walk.closed);
              more = λ other h. one_more tree inside other (walk.more other h);
              small = λ other h. small_of other (or_cases (same_tree other tree) (is_in other inside) h);
            },
            or_left (same_tree tree tree) (is_in tree inside) (same_self tree),
          )
    ]
  where
    absent : is_in tree before ≡ false → is_in tree inside ≡ false
    absent new =
        false_from_ne_true (is_in tree inside) (λ e.
        elim (walk.small tree e) [ inl old ↦ both_ways (is_in tree before) new old | inr le ↦ absurd (omega (arith, le, bigger)) ])

    small_of : (other : Tree) → (same_tree other tree ≡ true) ⊎ (is_in other inside ≡ true) → (is_in other before ≡ true) ⊎ (size other ≤ size tree)
    small_of other (inl here) = let e : size other ≡ size tree = ap size (same_is other tree here) in inr (omega (arith, e))
    small_of other (inr there) = elim (walk.small other there) [ inl old ↦ inl old | inr le ↦ inr (omega (arith, le, bigger)) ]

mutual
  walk_tree : (tree : Tree) (before : List Tree) → IsClosed before → IsWalked before (trees_after_walk tree before) (size tree)
      × Placed tree (trees_after_walk tree before)
  walk_tree Finish before closed = (record { closed = closed; more = λ other h. h; small = λ other h. inl h }, tt)
  walk_tree (Plays card next) before closed =
      let inside = walk_tree next before closed in
      leave (Plays card next) before (trees_after_walk next before) (size next) closed inside.0 (omega arith) inside.1
  walk_tree (Sees branches) before closed =
      let inside = walk_all branches before closed in
      leave (Sees branches) before (trees_after_walks branches before) (sizes branches) closed inside.0 (omega arith) inside.1

  walk_all : (branches : Branches) (before : List Tree) → IsClosed before → IsWalked before (trees_after_walks branches before) (sizes branches) ×
      AllPlaced branches (trees_after_walks branches before)
  walk_all NoBranch before closed = (record { closed = closed; more = λ other h. h; small = λ other h. inl h }, tt)
  walk_all (Branch tree branches) before closed =
      let first = walk_tree tree before closed in
      let others = walk_all branches (trees_after_walk tree before) first.0.closed in (
        record {
          closed = others.0.closed;
          more = λ other h. others.0.more other (first.0.more other h);
          small = λ other h. elim (others.0.small other h) [
            | inl there ↦ elim (first.0.small other there) [ inl old ↦ inl old | inr le ↦ inr (omega (arith, le)) ]
            | inr le ↦ inr (omega (arith, le))
          ];
        },
        (placed_more (trees_after_walk tree before) (trees_after_walks branches (trees_after_walk tree before)) others.0.more tree first.1, others.1),
      )

-- the walk of a tree is closed
pub walk_closed : (tree : Tree) → IsClosed (trees_after_walk tree [])
walk_closed tree = (walk_tree tree [] tt).0.closed

-- ---- the nodes
pub leads_in : (trees : List Tree) → IsClosed trees → (tree : Tree) → is_in tree trees ≡ true → Leads tree trees
leads_in [] closed tree h = absurd (both_ways false refl h)
leads_in (first ∷ trees) closed tree h =
    leads_more trees (first ∷ trees) (one_more first trees) tree
    (elim (or_cases (same_tree tree first) (is_in tree trees) h) [
      | inl here ↦ rw (same_is tree first here) closed.1
      | inr there ↦ leads_in trees closed.2 tree there
    ])

module _ (all : List Tree) where
  one_node : (tree : Tree) (trees : List Tree) → Leads tree trees → (node : Node) × (nodes_for all tree ≡ node ∷ [])
  one_node Finish trees leads = absurd leads
  one_node (Plays card next) trees leads = (Play card (place_of_tree all next), refl)
  one_node (Sees branches) trees leads = (See (map (place_of_tree all) (trees_of branches)), refl)

  node_in : (trees : List Tree) → IsClosed trees → (tree : Tree) → is_in tree trees ≡ true → (node : Node) → nodes_for all tree ≡ node ∷ [] →
      slice_get (flat_map (nodes_for all) trees) (number_of tree trees) ≡ Some node
  node_in [] closed tree h node is = absurd (both_ways false refl h)
  node_in (first ∷ trees) closed tree h node is =
      elim (cases_Bool (same_tree tree first)) [
        | inl here ↦ rw (here, ← same_is tree first here, is)
        | inr other ↦
            rw (other, add-one, (one_node first trees closed.1).1) (node_in trees closed.2 tree (rw other at h) node is)
      ]

  module _ (closed : IsClosed all) where
    mutual
      tree_stands : (tree : Tree) → Placed tree all → Stands (plan_of_trees all) tree (place_of_tree all tree)
      tree_stands Finish placed = refl
      tree_stands (Plays card next) placed = (
        place_of_tree all next,
        node_in all closed (Plays card next) placed (Play card (place_of_tree all next)) refl,
        tree_stands next (leads_in all closed (Plays card next) placed),
      )
      tree_stands (Sees branches) placed = (
        map (place_of_tree all) (trees_of branches),
        node_in all closed (Sees branches) placed (See (map (place_of_tree all) (trees_of branches))) refl,
        branches_stand branches (leads_in all closed (Sees branches) placed),
      )

      branches_stand : (branches : Branches) → AllPlaced branches all → StandAll (plan_of_trees all) branches (map (place_of_tree all) (trees_of branches))
      branches_stand NoBranch placed = refl
      branches_stand (Branch tree branches) placed =
          (place_of_tree all tree, map (place_of_tree all) (trees_of branches), refl, tree_stands tree placed.0, branches_stand branches placed.1)

-- the plan of a tree starts at the place of the tree
starts : (tree : Tree) → plan_start (plan_of_tree tree) ≡ place_of_tree (trees_after_walk tree []) tree
starts Finish = refl
starts tree = rw (same_self tree)

-- the plan of a tree represents it
pub plan_stands : (tree : Tree) → Stands (plan_of_tree tree) tree (plan_start (plan_of_tree tree))
plan_stands tree = rw (starts tree) (tree_stands (trees_after_walk tree []) (walk_closed tree) tree (walk_tree tree [] tt).1)
