-- The kept nodes, and the trees that they represent.
use Rattle.std.proofs.Common.{◌≡◌, ◌⊎◌, ℕ, zero, suc, ◌<◌, Bool, true, false, cond, List, [], ◌∷◌, ◌++◌, length, Some, slice_get, refl, sym, ap, subst, ◌∙◌}
use Rattle.std.proofs.Common.{inl, inr, get_or, arith}
use Rattle.std.specs.List.{IsDistinct, position}
use Rattle.std.proofs.Common.{◌&&◌, eqb}
use Rattle.std.specs.Bool.{Decides}
use Rattle.std.proofs.lemmas.Bool.Decides.{Decides-and, Decides-eqb, Decides-like, same_from_decides}
use Rattle.std.proofs.lemmas.Bool.{both_ways, cases_order}
use Rattle.std.proofs.lemmas.Map.Keys.{apart_from_distinct}
use Rattle.std.proofs.lemmas.List.Quantifiers.{position-Some}
use Rattle.std.proofs.lemmas.Option.{get_or_from_slice_get, slice_get-get_or, slice_get_within}
use Rattle.crib_search.specs.declared.nodes.DraftPlace.{DraftPlace}
use Rattle.crib_search.specs.declared.nodes.DraftPlace.TheVariants.{At}
use Rattle.crib_search.specs.declared.nodes.DraftNode.{DraftNode}
use Rattle.crib_search.specs.declared.nodes.DraftNode.TheVariants.{Play, See}
use Rattle.crib_search.specs.contracts.nodes.DraftNodePartialEq.TheImpl as compared
use Rattle.crib_search.specs.Trees.{Tree, Finish, Plays, Sees, Branches, NoBranch, Branch, same_tree, same_branches}
use Rattle.crib_search.specs.Private.Nodes.{IsBelow, AreKept, IsMore, Names, NameAll}
use Rattle.crib_search.proofs.Equality.{same_draft_nodes}
use Rattle.crib_search.proofs.Trees.{differ}

-- the nodes with one more at the end, or the same nodes if it was among them
abbrev pub IsAdded : List DraftNode → DraftNode → List DraftNode → Type 0
IsAdded before draft_node after = (after ≡ before) ⊎ (after ≡ before ++ draft_node ∷ [])

-- ---- indices
-- each node is there once if the nodes are distinct
once_of : (draft_nodes : List DraftNode) → IsDistinct compared.ghosts.eq draft_nodes → (index other : ℕ) (draft_node : DraftNode) →
    slice_get draft_nodes index ≡ Some draft_node → slice_get draft_nodes other ≡ Some draft_node → index ≡ other
once_of draft_nodes distinct index other draft_node e f =
    elim (cases_order index other) [
      | inl same ↦ same
      | inr (inl before) ↦ absurd (apart index other before e f)
      | inr (inr after) ↦ absurd (apart other index after f e)
    ]
  where
    apart : (one two : ℕ) → one < two → slice_get draft_nodes one ≡ Some draft_node → slice_get draft_nodes two ≡ Some draft_node → ⊥
    apart one two before a b =
        let first = get_or_from_slice_get draft_nodes one draft_node draft_node a in
        let second = get_or_from_slice_get draft_nodes two draft_node draft_node b in
        let differ = apart_from_distinct compared.ghosts.eq draft_nodes one two draft_node distinct before (slice_get_within draft_nodes two draft_node b) in
        both_ways (compared.ghosts.eq draft_node draft_node) (rw (first, second) at differ) ((same_draft_nodes draft_node draft_node).1 refl)

-- a node of a list with one more
push_get : (draft_nodes : List DraftNode) (new : DraftNode) (index : ℕ) (draft_node : DraftNode) → slice_get (draft_nodes ++ new ∷ []) index ≡ Some draft_node →
    (slice_get draft_nodes index ≡ Some draft_node) ⊎ ((index ≡ length draft_nodes) × (new ≡ draft_node))
push_get [] new zero draft_node e = let same : new ≡ draft_node = cc in inr (refl, same)
push_get [] new (suc index) draft_node e = absurd cc
push_get (first ∷ draft_nodes) new zero draft_node e = inl e
push_get (first ∷ draft_nodes) new (suc index) draft_node e =
    elim (push_get draft_nodes new index draft_node e) [
      | inl there ↦ inl there
      | inr last ↦ let at = last.0 in inr (omega (arith, at), last.1)
    ]

get_push : (draft_nodes : List DraftNode) (new : DraftNode) (index : ℕ) (draft_node : DraftNode) → slice_get draft_nodes index ≡ Some draft_node →
    slice_get (draft_nodes ++ new ∷ []) index ≡ Some draft_node
get_push [] new index draft_node e = absurd cc
get_push (first ∷ draft_nodes) new zero draft_node e = e
get_push (first ∷ draft_nodes) new (suc index) draft_node e = get_push draft_nodes new index draft_node e

pub more_added : (before : List DraftNode) (draft_node : DraftNode) (after : List DraftNode) → IsAdded before draft_node after → IsMore before after
more_added before draft_node after (inl e) index other there = ap (λ (draft_nodes : List DraftNode). slice_get draft_nodes index) e ∙ there
more_added before draft_node after (inr e) index other there =
    ap (λ (draft_nodes : List DraftNode). slice_get draft_nodes index) e ∙ get_push before draft_node index other there

pub added_by : (before : List DraftNode) (draft_node : DraftNode) (after : List DraftNode) (there : Bool) →
    after ≡ cond there before (before ++ draft_node ∷ []) →
    IsAdded before draft_node after
added_by before draft_node after true e = inl e
added_by before draft_node after false e = inr e

-- ---- one more node is kept
pub kept_added : (before : List DraftNode) (draft_node : DraftNode) (after : List DraftNode) → AreKept before → IsBelow (length before) draft_node →
    IsAdded before draft_node after →
    IsDistinct compared.ghosts.eq after → AreKept after
kept_added before draft_node after kept below added distinct = record { earlier = earlier added; once = once_of after distinct }
  where
    earlier : IsAdded before draft_node after → (index : ℕ) (other : DraftNode) → slice_get after index ≡ Some other → IsBelow index other
    earlier (inl e) index other there = kept.earlier index other (ap (λ (draft_nodes : List DraftNode). slice_get draft_nodes index) (sym e) ∙ there)
    earlier (inr e) index other there =
        elim (push_get before draft_node index other (ap (λ (draft_nodes : List DraftNode). slice_get draft_nodes index) (sym e) ∙ there)) [
          | inl old ↦ kept.earlier index other old
          | inr last ↦
              subst (λ (s : DraftNode). IsBelow index s) last.1 (subst (λ (count : ℕ). IsBelow count draft_node) (sym last.0) below)
        ]

-- ---- trees
mutual
  pub names_more : (before after : List DraftNode) → IsMore before after → (tree : Tree) (draft_place : DraftPlace) → Names before tree draft_place →
      Names after tree draft_place
  names_more before after more Finish draft_place names = names
  names_more before after more (Plays card next) draft_place names =
      (names.0, names.1, names.2, more names.0 (Play card names.1) names.3, names_more before after more next names.1 names.4)
  names_more before after more (Sees branches) draft_place names =
      (names.0, names.1, names.2, more names.0 (See names.1) names.3, all_more before after more branches names.1 names.4)

  pub all_more : (before after : List DraftNode) → IsMore before after → (branches : Branches) (nexts : List DraftPlace) → NameAll before branches nexts →
      NameAll after branches nexts
  all_more before after more NoBranch nexts names = names
  all_more before after more (Branch tree branches) nexts names =
      (names.0, names.1, names.2, names_more before after more tree names.0 names.3, all_more before after more branches names.1 names.4)

-- the places of two trees are the same exactly where the trees are
module _ (draft_nodes : List DraftNode) (kept : AreKept draft_nodes) where
  mutual
    pub same_where : (one other : Tree) (place at : DraftPlace) → Names draft_nodes one place → Names draft_nodes other at →
        Decides (same_tree one other) (place ≡ at)
    same_where Finish Finish place at a b = (λ h. cc, λ e. refl)
    same_where Finish other place at a b = differ (λ e. cc (b.2))
    same_where one Finish place at a b = differ (λ e. cc (a.2))
    same_where (Plays card next) (Plays other after) place at a b =
        Decides-like (eqb card other && same_tree next after)
        (λ s. cc (a.2, b.2, kept.once a.0 b.0 (Play other b.1) (cc (a.3, s.0, s.1)) b.3)) (λ e. (cc (a.2, a.3, b.2, b.3), cc (a.2, a.3, b.2, b.3)))
        (Decides-and (eqb card other) (same_tree next after) (Decides-eqb card other) (same_where next after a.1 b.1 a.4 b.4))
    same_where (Sees branches) (Sees others) place at a b =
        Decides-like (same_branches branches others) (λ s. cc (a.2, b.2, kept.once a.0 b.0 (See b.1) (cc (a.3, s)) b.3)) (λ e. cc (a.2, a.3, b.2, b.3))
        (all_same_where branches others a.1 b.1 a.4 b.4)
    same_where one other place at a b = differ (λ e. cc (a.2, a.3, b.2, b.3))

    all_same_where : (ones others : Branches) (places ats : List DraftPlace) → NameAll draft_nodes ones places → NameAll draft_nodes others ats →
        Decides (same_branches ones others) (places ≡ ats)
    all_same_where NoBranch NoBranch places ats a b = (λ h. cc, λ e. refl)
    all_same_where NoBranch (Branch tree others) places ats a b = differ (λ e. cc (b.2))
    all_same_where (Branch tree branches) NoBranch places ats a b = differ (λ e. cc (a.2))
    all_same_where (Branch one ones) (Branch other others) places ats a b =
        Decides-like (same_tree one other && same_branches ones others) (λ s. cc (a.2, b.2, s.0, s.1)) (λ e. (cc (a.2, b.2), cc (a.2, b.2)))
        (Decides-and (same_tree one other) (same_branches ones others) (same_where one other a.0 b.0 a.3 b.3)
        (all_same_where ones others a.1 b.1 a.4 b.4))

  pub same_for : (one other : Tree) (index at : ℕ) → Names draft_nodes one (At index) → Names draft_nodes other (At at) → same_tree one other ≡ eqb at index
  same_for one other index at a b =
      same_from_decides (same_tree one other) (eqb at index) (same_where one other (At index) (At at) a b)
      (Decides-like (eqb at index) (λ e. cc) (λ e. cc) (Decides-eqb at index))

-- the stored node is the one that was asked for
pub stored_is : (draft_nodes : List DraftNode) (index : ℕ) (draft_node : DraftNode) → (there : DraftNode) × (slice_get draft_nodes index ≡ Some there) ×
    (compared.ghosts.eq draft_node there ≡ true) → slice_get draft_nodes index ≡ Some draft_node
stored_is draft_nodes index draft_node stored = stored.1 ∙ ap (λ (s : DraftNode). Some s) (sym ((same_draft_nodes draft_node stored.0).0 stored.2))

-- so is the one that is found by a search for it
pub found_is : (draft_nodes : List DraftNode) (index : ℕ) (draft_node : DraftNode) →
    position (compared.ghosts.eq draft_node) draft_nodes ≡ Some index → slice_get draft_nodes index ≡ Some draft_node
found_is draft_nodes index draft_node at =
    let found = position-Some (compared.ghosts.eq draft_node) draft_nodes index draft_node at in
    stored_is draft_nodes index draft_node (get_or draft_nodes index draft_node, slice_get-get_or draft_nodes index draft_node found.0, found.1)
