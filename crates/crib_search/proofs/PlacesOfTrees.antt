-- The places of a plan that represent a tree.
use Rattle.std.proofs.Common.{◌≡◌, ◌⊎◌, ℕ, zero, suc, true, false, ◌&&◌, List, [], ◌∷◌, Option, Some, slice_get, refl, sym, ap, subst, ◌∙◌}
use Rattle.std.proofs.Common.{inl, inr}
use Rattle.std.specs.Prelude.{unwrap_or}
use Rattle.std.specs.List.{filter, list_all}
use Rattle.std.proofs.lemmas.Bool.{cases_Bool, and_parts, and_from, both_ways}
use Rattle.crib_cards.specs.Letters.{letter_index}
use Rattle.crib_cards.specs.declared.letters.Letter.{Letter}
use Rattle.crib_plan.specs.declared.plan.Next.{Next}
use Rattle.crib_plan.specs.declared.plan.Next.TheVariants.{End}
use Rattle.crib_plan.specs.declared.plan.Node.{Node}
use Rattle.crib_plan.specs.declared.plan.Node.TheVariants.{Play, See}
use Rattle.crib_plan.specs.Places.{node_at, after_letter, place_after_letter}
use Rattle.crib_search.specs.Trees.{Tree, Finish, Plays, Sees, Branches, NoBranch, Branch, branches_of, same_tree, is_finish, is_play, joined_tree}
use Rattle.crib_search.specs.Trees.{joined_tree_from}
use Rattle.crib_search.proofs.Trees.{goes_on, finish_is, first_is, same_self}

-- a place of a plan represents a tree: from there on the plan is the tree
abbrev mutual
  pub Stands : List Node → Tree → Next → Type 0
  Stands plan Finish place = place ≡ End
  Stands plan (Plays card next) place = (after : Next) × (node_at plan place ≡ Some (Play card after)) × Stands plan next after
  Stands plan (Sees branches) place = (nexts : List Next) × (node_at plan place ≡ Some (See nexts)) × StandAll plan branches nexts

  pub StandAll : List Node → Branches → List Next → Type 0
  StandAll plan NoBranch nexts = nexts ≡ []
  StandAll plan (Branch tree branches) nexts = (next : Next) × (others : List Next) × (nexts ≡ next ∷ others) × Stands plan tree next ×
      StandAll plan branches others

-- a place will do for a tree: it represents the tree, or the tree is the end
abbrev pub Does : List Node → Tree → Next → Type 0
Does plan tree place = (tree ≡ Finish) ⊎ Stands plan tree place

module _ (plan : List Node) where
  -- the place of one branch
  branch_stands : (trees : List Tree) (nexts : List Next) (index : ℕ) (tree : Tree) → StandAll plan (branches_of trees) nexts →
      slice_get trees index ≡ Some tree → (next : Next) × (slice_get nexts index ≡ Some next) × Stands plan tree next
  branch_stands [] nexts index tree all e = absurd cc
  branch_stands (first ∷ trees) nexts zero tree all e =
      let same : first ≡ tree = cc in
      (all.0, ap (λ (xs : List Next). slice_get xs 0) all.2, subst (λ (t : Tree). Stands plan t all.0) same all.3)
  branch_stands (first ∷ trees) nexts (suc index) tree all e =
      let rest = branch_stands trees all.1 index tree all.4 e in (rest.0, ap (λ (xs : List Next). slice_get xs (suc index)) all.2 ∙ rest.1, rest.2)

  -- at a play node, a letter does not move the place
  pub play_stays : (tree : Tree) (place : Next) (letter : Letter) → is_play tree ≡ true → Does plan tree place →
      Stands plan tree (place_after_letter plan place letter)
  play_stays (Plays card next) place letter p (inl e) = absurd cc
  play_stays (Plays card next) place letter p (inr stands) = rw stands.1 stands
  play_stays tree place letter p d = absurd (both_ways false refl p)

  module _ (trees : List Tree) (letter : Letter) (tree : Tree) (is : slice_get trees (letter_index letter) ≡ Some tree) (place : Next) where
    abbrev further : Next
    further = place_after_letter plan place letter

    see_does : Does plan (Sees (branches_of trees)) place → Does plan tree further
    see_does (inl e) = absurd cc
    see_does (inr stands) =
        let found = branch_stands trees stands.0 (letter_index letter) tree stands.2 is in
        let goes : further ≡ found.0 = ap (λ (node : Option Node). after_letter node letter place) stands.1
        ∙ ap (λ (next : Option Next). unwrap_or next End) found.1 in
        inr (subst (λ (next : Next). Stands plan tree next) (sym goes) found.2)

    -- if a place will do for the joined tree, its place after a letter will do for the branch of that letter
    pub joined_does : Does plan (joined_tree trees) place → Does plan tree further
    joined_does does =
        elim (cases_Bool (is_finish tree)) [ inl f ↦ inl (finish_is tree f) | inr on ↦ does_from on (filter goes_on trees) refl does ]
      where
        does_from : is_finish tree ≡ false → (left : List Tree) → filter goes_on trees ≡ left → Does plan (joined_tree_from trees left) place →
            Does plan tree further
        does_from on [] e does = inl (sym (first_is Finish trees (letter_index letter) tree (rw e) is on))
        does_from on (first ∷ others) e does =
            elim (cases_Bool (is_play first && list_all (same_tree first) others)) [
              | inl c ↦
                  let parts = and_parts (is_play first) (list_all (same_tree first) others) c in
                  let all = and_from (same_tree first first) (list_all (same_tree first) others) (same_self first) parts.1 in
                  let same = first_is first trees (letter_index letter) tree (rw e all) is on in
                  inr (rw (← same) (play_stays first place letter parts.0 (rw c at does)))
              | inr c ↦ see_does (rw c at does)
            ]
