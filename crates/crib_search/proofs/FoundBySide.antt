-- What is found after a history, by who is asked.
use Rattle.std.proofs.Common.{◌≡◌, ℕ, zero, suc, ◌+◌, true, false, eqb, List, [], ◌∷◌, ◌++◌, take, Option, Some, None, slice_get, refl, inl}
use Rattle.std.proofs.Common.{inr}
use Rattle.std.specs.List.{AllZip}
use Rattle.std.proofs.lemmas.Bool.{or_cases, or_right, both_ways, eqb-true}
use Rattle.std.proofs.lemmas.List.{take_more}
use Rattle.std.proofs.lemmas.Option.{slice_get_within, get_or_from_slice_get}
use Rattle.crib_cards.specs.Sets.{has}
use Rattle.crib_cards.specs.Letters.{IsLetter, letter_index}
use Rattle.crib_cards.specs.declared.letters.Letter.{Letter}
use Rattle.crib_cards.specs.declared.letters.Letter.TheVariants.{Seen, Go}
use Rattle.crib_cards.specs.declared.moves.Move.TheVariants as move
use Rattle.crib_cards.proofs.EachRank.{each_rank}
use Rattle.crib_play.specs.declared.turns.Turn.{Turn}
use Rattle.crib_play.specs.declared.turns.Turn.TheVariants as turns
use Rattle.crib_play.specs.History.{Event, Own, Theirs}
use Rattle.crib_problem.specs.Setup.{Setup, IsSetup}
use Rattle.crib_know.specs.Knowledge.{played_events, asked_now}
use Rattle.crib_know.specs.Hidden.{CanShow}
use Rattle.crib_know.proofs.PassingIsAgreeing.{theirs_letter}
use Rattle.crib_search.specs.Trees.{Tree, Plays, joined_tree}
use Rattle.crib_search.specs.Finder.{Found, Tries, BranchFinds, LacksBranch, FindsFor, Finds, FindsTree, letters}
use Rattle.crib_cards.proofs.Members.{has_here}

-- what is found, if it is known who is asked
pub for_turn : (more : ℕ) (problem : Setup) (history : List Event) (found : Option Tree) (turn : Turn) → asked_now problem history ≡ turn →
    Finds (suc more) problem history found →
    FindsFor turn (λ further after. Finds more problem further after) problem history found
for_turn more problem history found turn e finds = rw e at finds

-- the same at any bound: something is found only at one that is not zero
pub for_asked : (more : ℕ) (problem : Setup) (history : List Event) (found : Option Tree) (turn : Turn) → asked_now problem history ≡ turn →
    Finds more problem history found → (less : ℕ) × FindsFor turn (λ further after. Finds less problem further after) problem history found
for_asked zero problem history found turn e finds = absurd finds
for_asked (suc more) problem history found turn e finds = (more, for_turn more problem history found turn e finds)

-- ---- the owner
-- a tree that the owner finds plays one of the cards
pub tries_some : (finds : Found) (history : List Event) (cards : List ℕ) (tree : Tree) → Tries finds history cards (Some tree) →
    (card : ℕ) × (next : Tree) × (has cards card ≡ true) × finds (Own (move.Card card) ∷ history) (Some next) × (tree ≡ Plays card next)
tries_some finds history [] tree tries = absurd cc
tries_some finds history (first ∷ cards) tree (None, found, rest) =
    let deep = tries_some finds history cards tree rest in (deep.0, deep.1, or_right (eqb first deep.0) (has cards deep.0) deep.2, deep.3, deep.4)
tries_some finds history (first ∷ cards) tree (Some next, found, e) = (first, next, has_here first cards, found, cc)

-- one of the cards after which a tree is found
pub tries_there : (finds : Found) (history : List Event) (cards : List ℕ) (found : Option Tree) (card : ℕ) → Tries finds history cards found →
    has cards card ≡ true →
    ((after : Option Tree) → finds (Own (move.Card card) ∷ history) after → after ≡ None → ⊥) → found ≡ None → ⊥
tries_there finds history [] found card tries h some none = both_ways false refl h
tries_there finds history (first ∷ cards) found card (None, here, rest) h some none =
    elim (or_cases (eqb first card) (has cards card) h) [
      | inl same ↦ some None (rw (eqb-true first card same) at here) refl
      | inr there ↦ tries_there finds history cards found card rest there some none
    ]
tries_there finds history (first ∷ cards) found card (Some next, here, e) h some none = absurd cc

-- ---- the opponent
-- what is true of each letter by its index
pub zip_at : (P : Letter → Tree → Type 0) (shown : List Letter) (trees : List Tree) (index : ℕ) (letter : Letter) → AllZip P shown trees →
    slice_get shown index ≡ Some letter →
    (tree : Tree) × (slice_get trees index ≡ Some tree) × P letter tree
zip_at P [] trees index letter all e = absurd cc
zip_at P (first ∷ shown) [] index letter all e = absurd all
zip_at P (first ∷ shown) (tree ∷ trees) zero letter all e = let same : first ≡ letter = cc in (tree, refl, rw same at all.0)
zip_at P (first ∷ shown) (tree ∷ trees) (suc index) letter all e = zip_at P shown trees index letter all.1 e

-- a letter is at its index among the letters
pub letter_at : (letter : Letter) → IsLetter letter → slice_get letters (letter_index letter) ≡ Some letter
letter_at (Seen rank) is =
    each_rank (λ r. slice_get letters (letter_index (Seen r)) ≡ Some (Seen r)) refl refl refl refl refl refl refl refl refl refl refl refl refl rank is
letter_at Go is = refl

pub take_letter : (letter : Letter) (index : ℕ) → IsLetter letter → letter_index letter ≡ index → take (index + 1) letters ≡ take index letters ++ letter ∷ []
take_letter letter index is at =
    let found = rw at at (letter_at letter is) in
    rw (take_more letters index letter (slice_get_within letters index letter found), get_or_from_slice_get letters index letter letter found)

module _ (problem : Setup) (setup : IsSetup problem) (history : List Event) where
  -- the branch of a letter that can be shown
  pub branch_found : (finds : Found) (trees : List Tree) (letter : Letter) → CanShow problem history letter →
      AllZip (BranchFinds finds problem history) letters trees →
      (tree : Tree) × (slice_get trees (letter_index letter) ≡ Some tree) × finds (Theirs letter ∷ history) (Some tree)
  branch_found finds trees letter can all =
      let at = zip_at (BranchFinds finds problem history) letters trees (letter_index letter) letter all
      (letter_at letter (theirs_letter problem setup history letter can)) in
      elim at.2 [
        | inl found ↦ (at.0, at.1, found.1)
        | inr not ↦ absurd (not.0 can)
      ]

-- if a tree is found, it joins some branches
pub opponent_some : (finds : Found) (problem : Setup) (history : List Event) (tree : Tree) → FindsFor turns.Opponent finds problem history (Some tree) →
    (trees : List Tree) × AllZip (BranchFinds finds problem history) letters trees × (tree ≡ joined_tree trees)
opponent_some finds problem history tree (inl lacks) = absurd (cc (lacks.1))
opponent_some finds problem history tree (inr found) = (found.0, found.1, cc (found.2))

-- if none is found, some letter can be shown after which none is found
pub opponent_none : (finds : Found) (problem : Setup) (history : List Event) → FindsFor turns.Opponent finds problem history None →
    LacksBranch finds problem history
opponent_none finds problem history (inl lacks) = lacks.0
opponent_none finds problem history (inr found) = absurd (cc (found.2))

-- ---- from the start
pub finds_of_tree : (problem : Setup) (found : Option Tree) → FindsTree problem found → Finds 30 problem (played_events problem) found
unfolding FindsTree
finds_of_tree problem found finds = finds
