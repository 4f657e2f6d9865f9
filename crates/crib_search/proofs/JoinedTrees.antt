-- The place for all letters names the joined tree.
use Rattle.std.proofs.Common.{◌≡◌, ℕ, ◌<◌, Bool, true, false, ◌&&◌, cond, List, [], ◌∷◌, length, Some, None, slice_get, refl}
use Rattle.std.proofs.Common.{arith}
use Rattle.std.specs.List.{AllZip, AllByRecursion, filter, list_all}
use Rattle.std.proofs.lemmas.Option.{slice_get_within}
use Rattle.crib_search.specs.declared.nodes.DraftPlace.{DraftPlace}
use Rattle.crib_search.specs.declared.nodes.DraftPlace.TheVariants.{End, At}
use Rattle.crib_search.specs.declared.nodes.DraftNode.{DraftNode}
use Rattle.crib_search.specs.declared.nodes.DraftNode.TheVariants.{See}
use Rattle.crib_search.specs.Trees.{Tree, Finish, Sees, branches_of, same_tree, is_play, joined_tree}
use Rattle.crib_search.specs.Private.Nodes.{IsEarlier, AreKept, IsMore, IsPlaceOf, Names, NameAll, first_node, goes_to, is_play_at}
use Rattle.crib_search.proofs.Trees.{goes_on, same_self}
use Rattle.crib_search.proofs.KeptNodes.{all_more, same_for}

module _ (draft_nodes : List DraftNode) where
  -- ---- one place
  pub end_names : (tree : Tree) → Names draft_nodes tree End → tree ≡ Finish
  end_names Finish names = refl
  end_names tree names = absurd (cc (names.2))

  pub draft_place_earlier : (tree : Tree) (draft_place : DraftPlace) → Names draft_nodes tree draft_place → IsEarlier (length draft_nodes) draft_place
  draft_place_earlier tree End names = tt
  draft_place_earlier Finish (At index) names = absurd cc
  draft_place_earlier tree (At index) names =
      let e : index ≡ names.0 = cc (names.2) in let h = slice_get_within draft_nodes names.0 _ names.3 in omega (arith, e, h)

  play_is : (tree : Tree) (index : ℕ) → Names draft_nodes tree (At index) → is_play tree ≡ is_play_at (slice_get draft_nodes index)
  play_is Finish index names = absurd cc
  play_is tree index names = let e : index ≡ names.0 = cc (names.2) in rw (e, names.3)

  -- ---- all places
  pub all_named : (trees : List Tree) (nexts : List DraftPlace) → AllZip (Names draft_nodes) trees nexts → NameAll draft_nodes (branches_of trees) nexts
  all_named [] [] zip = refl
  all_named (tree ∷ trees) (next ∷ nexts) zip = (next, nexts, refl, zip.0, all_named trees nexts zip.1)
  all_named trees nexts zip = absurd zip

  pub all_earlier : (trees : List Tree) (nexts : List DraftPlace) → AllZip (Names draft_nodes) trees nexts →
      AllByRecursion (IsEarlier (length draft_nodes)) nexts
  all_earlier [] [] zip = tt
  all_earlier (tree ∷ trees) (next ∷ nexts) zip = (draft_place_earlier tree next zip.0, all_earlier trees nexts zip.1)
  all_earlier trees nexts zip = absurd zip

  -- if all are the end, none is left that is not
  pub none_left : (trees : List Tree) (nexts : List DraftPlace) → AllZip (Names draft_nodes) trees nexts → first_node nexts ≡ None → filter goes_on trees ≡ []
  none_left [] nexts zip e = refl
  none_left (tree ∷ trees) [] zip e = absurd zip
  none_left (Finish ∷ trees) (End ∷ nexts) zip e = none_left trees nexts zip.1 e
  none_left (tree ∷ trees) (End ∷ nexts) zip e = absurd (cc (zip.0.2))
  none_left (tree ∷ trees) (At index ∷ nexts) zip e = absurd cc

  -- the first of the trees that are not the end, and the others
  record First (left : List Tree) (index : ℕ) : Type 0 where
    first : Tree
    others : List Tree
    are : left ≡ first ∷ others
    names : Names draft_nodes first (At index)

  first_of : (trees : List Tree) (nexts : List DraftPlace) (index : ℕ) → AllZip (Names draft_nodes) trees nexts → first_node nexts ≡ Some index →
      First (filter goes_on trees) index
  first_of (Finish ∷ trees) (End ∷ nexts) index zip e = first_of trees nexts index zip.1 e
  first_of (Finish ∷ trees) (At at ∷ nexts) index zip e = absurd (cc (zip.0))
  first_of (tree ∷ trees) (End ∷ nexts) index zip e = absurd (cc (zip.0.2))
  first_of (tree ∷ trees) (At at ∷ nexts) index zip e =
      let same : index ≡ at = cc in
      record { first = tree; others = filter goes_on trees; are = refl; names = rw same zip.0 }
  first_of [] [] index zip e = absurd cc
  first_of trees nexts index zip e = absurd zip

  -- the first node is kept
  pub first_within : (trees : List Tree) (nexts : List DraftPlace) (index : ℕ) → AllZip (Names draft_nodes) trees nexts → first_node nexts ≡ Some index →
      index < length draft_nodes
  first_within trees nexts index zip e = let first = first_of trees nexts index zip e in draft_place_earlier first.first (At index) first.names

  module _ (kept : AreKept draft_nodes) where
    all_same : (one : Tree) (index : ℕ) → Names draft_nodes one (At index) → (trees : List Tree) (nexts : List DraftPlace) →
        AllZip (Names draft_nodes) trees nexts →
        list_all (same_tree one) (filter goes_on trees) ≡ list_all (goes_to index) nexts
    all_same one index names [] [] zip = refl
    all_same one index names (Finish ∷ trees) (End ∷ nexts) zip = all_same one index names trees nexts zip.1
    all_same one index names (Finish ∷ trees) (At at ∷ nexts) zip = absurd (cc (zip.0))
    all_same one index names (tree ∷ trees) (End ∷ nexts) zip = absurd (cc (zip.0.2))
    all_same one index names (tree ∷ trees) (At at ∷ nexts) zip =
        rw (same_for draft_nodes kept one tree index at names zip.0, all_same one index names trees nexts zip.1)
    all_same one index names trees nexts zip = absurd zip

    module _ (trees : List Tree) (nexts : List DraftPlace) (index : ℕ) (zip : AllZip (Names draft_nodes) trees nexts) (e : first_node nexts ≡ Some index) where
      abbrev one_play : Bool
      one_play = is_play_at (slice_get draft_nodes index) && list_all (goes_to index) nexts

      joined_is : (first : First (filter goes_on trees) index) → joined_tree trees ≡ cond one_play first.first (Sees (branches_of trees))
      joined_is first =
          let same = all_same first.first index first.names trees nexts zip in
          rw (← same, first.are, same_self first.first, play_is first.first index first.names)

      -- all that are not the end are one play node
      pub joined_play : one_play ≡ true → Names draft_nodes (joined_tree trees) (At index)
      joined_play b = let first = first_of trees nexts index zip e in rw (joined_is first, b) first.names

      -- otherwise the plan looks at the letter
      pub joined_see : one_play ≡ false → (after : List DraftNode) → IsMore draft_nodes after → (draft_place : DraftPlace) →
          IsPlaceOf after (See nexts) draft_place → Names after (joined_tree trees) draft_place
      joined_see b after more draft_place at =
          rw (joined_is (first_of trees nexts index zip e), b)
          (at.0, nexts, at.1, at.2, all_more draft_nodes after more (branches_of trees) nexts (all_named trees nexts zip))
