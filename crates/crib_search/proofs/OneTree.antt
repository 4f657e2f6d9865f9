-- The tree that is found is unique, and so is the answer that there is none.
use Rattle.std.proofs.Common.{arith, ◌≡◌, ℕ, zero, suc, List, [], ◌∷◌, Option, Some, None, refl, sym, ◌∙◌, inl, inr}
use Rattle.std.specs.List.{AllZip}
use Rattle.crib_cards.specs.declared.letters.Letter.{Letter}
use Rattle.crib_cards.specs.declared.moves.Move.TheVariants as move
use Rattle.crib_play.specs.declared.turns.Turn.{Turn}
use Rattle.crib_play.specs.declared.turns.Turn.TheVariants as turns
use Rattle.crib_play.specs.History.{Event, Own, Theirs}
use Rattle.crib_problem.specs.Setup.{Setup, IsSetup}
use Rattle.crib_know.specs.Knowledge.{played_events, asked_now}
use Rattle.crib_search.specs.Trees.{Tree}
use Rattle.crib_search.specs.Finder.{Found, Tries, OwnerFinds, LacksBranch, BranchFinds, FindsFor, Finds, letters, options}
use Rattle.crib_search.specs.Laws.{OneLaw}
use Rattle.crib_search.proofs.FoundBySide.{finds_of_tree, branch_found}
use Rattle.std.proofs.lemmas.Option.{same_Some}

-- a relation with at most one item for each has at most one list for each list
pub one_list : {X Y : Type 0} (R : X → Y → Type 0) → ((x : X) (one other : Y) → R x one → R x other → one ≡ other) → (xs : List X) (ones others : List Y) →
    AllZip R xs ones → AllZip R xs others → ones ≡ others
one_list R single [] [] [] a b = refl
one_list R single [] [] (other ∷ others) a b = absurd b
one_list R single (x ∷ xs) (one ∷ ones) [] a b = absurd b
one_list R single (x ∷ xs) (one ∷ ones) (other ∷ others) a b = cc (single x one other a.0 b.0, one_list R single xs ones others a.1 b.1)
one_list R single xs ones others a b = absurd a

-- one answer at a history
abbrev IsOne : Found → Type 0
IsOne finds = (history : List Event) (one other : Option Tree) → finds history one → finds history other → one ≡ other

module _ (finds : Found) (single : IsOne finds) where
  tries_one : (history : List Event) (cards : List ℕ) (one other : Option Tree) → Tries finds history cards one → Tries finds history cards other → one ≡ other
  tries_one history [] one other a b = a ∙ sym b
  tries_one history (card ∷ cards) one other (None, a, rest) (None, b, more) = tries_one history cards one other rest more
  tries_one history (card ∷ cards) one other (Some tree, a, rest) (Some next, b, more) =
      let same = single (Own (move.Card card) ∷ history) (Some tree) (Some next) a b in cc
  tries_one history (card ∷ cards) one other (after, a, rest) (later, b, more) =
      let same = single (Own (move.Card card) ∷ history) after later a b in absurd cc

  owner_one : (history : List Event) (cards : List ℕ) (one other : Option Tree) → OwnerFinds finds history cards one → OwnerFinds finds history cards other →
      one ≡ other
  owner_one history [] one other a b = single (Own move.Go ∷ history) one other a b
  owner_one history (card ∷ cards) one other a b = tries_one history (card ∷ cards) one other a b

  module _ (problem : Setup) (setup : IsSetup problem) (history : List Event) where
    branch_one : (letter : Letter) (one other : Tree) → BranchFinds finds problem history letter one → BranchFinds finds problem history letter other →
        one ≡ other
    branch_one letter one other a b = grind (arith, single (Theirs letter ∷ history) (Some one) (Some other), same_Some one other)

    branches_one : (shown : List Letter) (ones others : List Tree) → AllZip (BranchFinds finds problem history) shown ones →
        AllZip (BranchFinds finds problem history) shown others → ones ≡ others
    branches_one = one_list (BranchFinds finds problem history) branch_one

    -- if a branch is lacking, not all are found
    not_both : LacksBranch finds problem history → (trees : List Tree) → AllZip (BranchFinds finds problem history) letters trees → ⊥
    not_both lacks trees all =
        let found = branch_found problem setup history finds trees lacks.0 lacks.1 all in
        let e : None ≡ Some found.0 = single (Theirs lacks.0 ∷ history) None (Some found.0) lacks.2 found.2 in
        cc

    turn_one : (turn : Turn) (one other : Option Tree) → FindsFor turn finds problem history one → FindsFor turn finds problem history other → one ≡ other
    turn_one turns.Over one other (inl a) (inl b) = a.1 ∙ sym b.1
    turn_one turns.Over one other (inl a) (inr b) = absurd (b.0 a.0)
    turn_one turns.Over one other (inr a) (inl b) = absurd (a.0 b.0)
    turn_one turns.Over one other (inr a) (inr b) = a.1 ∙ sym b.1
    turn_one turns.Owner one other a b = owner_one history (options problem history) one other a b
    turn_one turns.Opponent one other (inl a) (inl b) = a.1 ∙ sym b.1
    turn_one turns.Opponent one other (inl a) (inr b) = absurd (not_both a.0 b.0 b.1)
    turn_one turns.Opponent one other (inr a) (inl b) = absurd (not_both b.0 a.0 a.1)
    turn_one turns.Opponent one other (inr a) (inr b) =
        cc (a.2, b.2, branches_one letters a.0 b.0 a.1 b.1)

pub finds_one : (problem : Setup) → IsSetup problem → (more : ℕ) (history : List Event) (one other : Option Tree) → Finds more problem history one →
    Finds more problem history other → one ≡ other
finds_one problem setup zero history one other a b = absurd a
finds_one problem setup (suc more) history one other a b =
    turn_one (λ further after. Finds more problem further after) (finds_one problem setup more) problem setup history (asked_now problem history) one other a b

pub one_law : OneLaw
one_law problem plan other setup a b =
    cc (a.2, b.2, finds_one problem setup 30 (played_events problem) a.0 b.0 (finds_of_tree problem a.0 a.1) (finds_of_tree problem b.0 b.1))
