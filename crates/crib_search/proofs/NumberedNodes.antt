-- The nodes that a walk numbers are the plan of the tree.
use Rattle.std.proofs.Common.{◌≡◌, ℕ, suc, ◌+◌, ◌-◌, ◌<◌, true, false, eqb, is_some, List, [], ◌∷◌, ◌++◌, length, map}
use Rattle.std.proofs.Common.{take, Option, Some, None, slice_get, append_assoc}
use Rattle.std.proofs.Common.{length-append, refl, sym, ap, ◌∙◌, inl, inr, arith}
use Rattle.std.specs.List.{AllByRecursion, flat_map}
use Rattle.std.proofs.lemmas.Bool.{cases_Bool, or_left, or_right, both_ways}
use Rattle.std.proofs.lemmas.Bool.Decides.{nat_tests}
use Rattle.std.proofs.lemmas.List.{length-map, take_more}
use Rattle.std.proofs.lemmas.Option.{slice_get_within, get_or_from_slice_get, same_Some}
use Rattle.std.proofs.lemmas.Grind.{flat_map-append}
use Rattle.crib_cards.specs.Cards.{IsCard}
use Rattle.crib_plan.specs.declared.plan.Next.TheVariants as next
use Rattle.crib_plan.specs.Nodes.{IsLater, AreNodes}
use Rattle.crib_search.specs.declared.nodes.DraftPlace.{DraftPlace}
use Rattle.crib_search.specs.declared.nodes.DraftPlace.TheVariants.{At}
use Rattle.crib_search.specs.declared.nodes.DraftNode.{DraftNode}
use Rattle.crib_search.specs.Trees.{Tree, Finish, Plays, Sees, Branches, NoBranch, Branch, trees_of, same_tree, number_of, place_of_tree, nodes_for}
use Rattle.crib_search.specs.Private.Nodes.{AreKept, Names, NameAll}
use Rattle.crib_search.specs.Private.Numbers.{AreLeft, mark_of, next_for, node_for, nodes_at, nodes_of_indices}
use Rattle.crib_search.proofs.Trees.{same_is, same_self}
use Rattle.crib_search.proofs.KeptNodes.{same_for}
use Rattle.crib_search.proofs.NodeWalks.{left_in}
use Rattle.crib_search.proofs.TreeWalks.{is_in, Placed, AllPlaced, Leads, IsClosed}

-- ---- the nodes of indices
-- one node more, by its number
pub nodes_step : (draft_nodes : List DraftNode) (left : List ℕ) (number index : ℕ) (draft_node : DraftNode) → slice_get left number ≡ Some index →
    slice_get draft_nodes index ≡ Some draft_node →
    nodes_of_indices draft_nodes left (take (number + 1) left) ≡ nodes_of_indices draft_nodes left (take number left) ++ node_for left draft_node ∷ []
nodes_step draft_nodes left number index draft_node at there =
    rw (
      take_more left number index (slice_get_within left number index at),
      get_or_from_slice_get left number index index at,
      flat_map-append (λ p. nodes_at left (slice_get draft_nodes p)) (take number left) (index ∷ []),
      there,
    )

-- ---- numbers
some_of : (mark : Option ℕ) → is_some mark ≡ true → (n : ℕ) × (mark ≡ Some n)
some_of None e = absurd (both_ways false refl e)
some_of (Some n) e = (n, refl)

module _ (draft_nodes : List DraftNode) (kept : AreKept draft_nodes) where
  -- the number of a node is how many nodes were left after it
  number_mark : (tree : Tree) (index : ℕ) → Names draft_nodes tree (At index) → (trees : List Tree) (left : List ℕ) → AreLeft draft_nodes trees left →
      (mark : ℕ) →
      mark_of index left ≡ Some mark → number_of tree trees + mark + 1 ≡ length left
  number_mark tree index names [] [] are mark e = absurd cc
  number_mark tree index names (other ∷ trees) (at ∷ left) are mark e =
      let same = same_for draft_nodes kept tree other index at names are.0 in
      elim (cases_Bool (eqb at index)) [
        | inl here ↦ let is = same_Some (length left) mark (rw here at e) in rw (same, here) (omega (arith, is))
        | inr apart ↦ let rest = number_mark tree index names trees left are.1 mark (rw apart at e) in rw (same, apart) (omega (arith, rest))
      ]
  number_mark tree index names trees left are mark e = absurd are

  module _ (all : List Tree) (left : List ℕ) (are : AreLeft draft_nodes all left) where
    at_next : (tree : Tree) (index : ℕ) → Names draft_nodes tree (At index) → is_in tree all ≡ true → next_for left (At index) ≡ next.To (number_of tree all)
    at_next tree index names there =
        let found = some_of (mark_of index left) (sym (left_in draft_nodes kept tree index names all left are) ∙ there) in
        let number = number_mark tree index names all left are found.0 found.1 in
        let e : length left - 1 - found.0 ≡ number_of tree all = omega (arith, number) in
        rw (found.1, e)

    next_is : (tree : Tree) (draft_place : DraftPlace) → Names draft_nodes tree draft_place → Placed tree all →
        next_for left draft_place ≡ place_of_tree all tree
    next_is Finish draft_place names placed = rw names
    next_is tree draft_place names placed = rw names.2 (at_next tree names.0 (names.0, names.1, refl, names.3, names.4) placed)

    nexts_are : (branches : Branches) (draft_places : List DraftPlace) → NameAll draft_nodes branches draft_places → AllPlaced branches all →
        map (next_for left) draft_places ≡ map (place_of_tree all) (trees_of branches)
    nexts_are NoBranch draft_places names placed = rw names
    nexts_are (Branch tree branches) draft_places names placed =
        rw (names.2, next_is tree names.0 names.3 placed.0, nexts_are branches names.1 names.4 placed.1)

    node_is : (tree : Tree) (index : ℕ) → Names draft_nodes tree (At index) → Leads tree all →
        nodes_at left (slice_get draft_nodes index) ≡ nodes_for all tree
    node_is Finish index names leads = absurd leads
    node_is (Plays card next) index names leads =
        let e : index ≡ names.0 = cc (names.2) in rw (e, names.3, next_is next names.1 names.4 leads)
    node_is (Sees branches) index names leads =
        let e : index ≡ names.0 = cc (names.2) in rw (e, names.3, nexts_are branches names.1 names.4 leads)

    pub nodes_are : (trees : List Tree) (indices : List ℕ) → AreLeft draft_nodes trees indices → ((tree : Tree) → is_in tree trees ≡ true → Leads tree all) →
        nodes_of_indices draft_nodes left indices ≡ flat_map (nodes_for all) trees
    nodes_are [] [] zip leads = refl
    nodes_are (tree ∷ trees) (index ∷ indices) zip leads =
        rw (
          node_is tree index zip.0 (leads tree (or_left (same_tree tree tree) (is_in tree trees) (same_self tree))),
          nodes_are trees indices zip.1 (λ other h. leads other (or_right (same_tree other tree) (is_in other trees) h)),
        )
    nodes_are trees indices zip leads = absurd zip

-- ---- these nodes are a plan
number_below : (tree : Tree) (trees : List Tree) → is_in tree trees ≡ true → number_of tree trees < length trees
number_below tree [] h = absurd (both_ways false refl h)
number_below tree (first ∷ trees) h = grind (arith, nat_tests, number_below tree trees)

in_append : (tree : Tree) (front rest : List Tree) → is_in tree rest ≡ true → is_in tree (front ++ rest) ≡ true
in_append tree [] rest h = h
in_append tree (first ∷ front) rest h = or_right (same_tree tree first) (is_in tree (front ++ rest)) (in_append tree front rest h)

number_after : (tree : Tree) (front rest : List Tree) → IsClosed (front ++ rest) → is_in tree rest ≡ true →
    number_of tree (front ++ rest) ≡ length front + number_of tree rest
number_after tree [] rest closed h = omega arith
number_after tree (first ∷ front) rest closed h =
    elim (cases_Bool (same_tree tree first)) [
      | inl here ↦ absurd (both_ways (is_in first (front ++ rest)) closed.0 (rw (← same_is tree first here) (in_append tree front rest h)))
      | inr apart ↦ let more = number_after tree front rest closed.2 h in rw apart (omega (arith, more))
    ]

-- the card of a play is a card, and a look has fourteen branches
abbrev pub IsFine : Tree → Type 0
IsFine Finish = ⊥
IsFine (Plays card next) = IsCard card
IsFine (Sees branches) = length (trees_of branches) ≡ 14

abbrev pub AreFine : List Tree → Type 0
AreFine [] = Unit {0}
AreFine (tree ∷ trees) = IsFine tree × AreFine trees

module _ (all : List Tree) (count : ℕ) (long : count ≡ length all) where
  module _ (front rest : List Tree) (closed : IsClosed (front ++ rest)) (same : front ++ rest ≡ all) (number : ℕ) (below : number < length front) where
    within : (tree : Tree) → is_in tree rest ≡ true → (number < number_of tree all) × (number_of tree all < count)
    within tree there =
        let after = rw same at (number_after tree front rest closed there) in
        let most = number_below tree all (rw (← same) (in_append tree front rest there)) in
        (omega (arith, after, below), omega (arith, most, long))

    later_is : (tree : Tree) → Placed tree rest → IsLater number count (place_of_tree all tree)
    later_is Finish placed = tt
    later_is tree placed = within tree placed

    all_later : (branches : Branches) → AllPlaced branches rest → AllByRecursion (IsLater number count) (map (place_of_tree all) (trees_of branches))
    all_later NoBranch placed = tt
    all_later (Branch tree branches) placed = (later_is tree placed.0, all_later branches placed.1)

  -- from a number on
  pub nodes_from : (front trees : List Tree) → IsClosed (front ++ trees) → IsClosed trees → front ++ trees ≡ all → AreFine trees →
      AreNodes (length front) count (flat_map (nodes_for all) trees)
  nodes_from front [] closed rest same fine = tt
  nodes_from front (tree ∷ trees) closed rest same fine =
      let regroup : (front ++ tree ∷ []) ++ trees ≡ front ++ tree ∷ trees = append_assoc front (tree ∷ []) trees in
      let one : length (front ++ tree ∷ []) ≡ length front + 1 = length-append front (tree ∷ []) in
      let below : length front < length (front ++ tree ∷ []) = omega (arith, one) in
      let now : IsClosed ((front ++ tree ∷ []) ++ trees) = rw regroup closed in
      first tree rest.1 fine.0 (later_is (front ++ tree ∷ []) trees now (regroup ∙ same) (length front) below)
      (all_later (front ++ tree ∷ []) trees now (regroup ∙ same) (length front) below)
      (rw (← one) (nodes_from (front ++ tree ∷ []) trees now rest.2 (regroup ∙ same) fine.1))
    where
      first : (tree : Tree) → Leads tree trees → IsFine tree → ((next : Tree) → Placed next trees → IsLater (length front) count (place_of_tree all next)) →
          ((branches : Branches) → AllPlaced branches trees →
          AllByRecursion (IsLater (length front) count) (map (place_of_tree all) (trees_of branches))) →
          AreNodes (length front + 1) count (flat_map (nodes_for all) trees) →
          AreNodes (length front) count (nodes_for all tree ++ flat_map (nodes_for all) trees)
      first Finish leads fine one each rest = absurd leads
      first (Plays card next) leads fine one each rest = ((fine, one next leads), rest)
      first (Sees branches) leads fine one each rest = ((length-map (trees_of branches) (place_of_tree all) ∙ fine, each branches leads), rest)

-- there are as many nodes as trees
pub plan_count : (all trees : List Tree) → IsClosed trees → length (flat_map (nodes_for all) trees) ≡ length trees
plan_count all [] closed = refl
plan_count all (Finish ∷ trees) closed = absurd closed.1
plan_count all (tree ∷ trees) closed = ap suc (plan_count all trees closed.2)

pub same_count : (draft_nodes : List DraftNode) (trees : List Tree) (left : List ℕ) → AreLeft draft_nodes trees left → length trees ≡ length left
same_count draft_nodes [] [] are = refl
same_count draft_nodes (tree ∷ trees) (index ∷ left) are = ap suc (same_count draft_nodes trees left are.1)
same_count draft_nodes trees left are = absurd are
