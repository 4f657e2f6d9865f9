-- Sets of cards from which the lowest card is taken again and again.
use Rattle.std.proofs.Common.{◌≡◌, ℕ, ◌+◌, ◌<◌, ◌≤◌, List, [], ◌∷◌, ◌++◌, length, take, set, Some, sym, ap, ◌∙◌, append_assoc, arith}
use Rattle.std.proofs.lemmas.List.{take_all, take-append-le}
use Rattle.crib_cards.specs.Sets.{set_without, IsCardSet, first_of_list}
use Rattle.crib_cards.proofs.LowestCard.{lowest_split}
use Rattle.crib_cards.proofs.SetWalks.{take_set}

-- one more card is taken
pub taken_card : (lowest cards rest : List ℕ) (i card : ℕ) → i < length lowest → IsCardSet cards → Some card ≡ first_of_list cards →
    rest ≡ set_without cards card → take (i + 1) (set lowest i card) ++ rest ≡ take i lowest ++ cards
taken_card lowest cards rest i card inside are e without =
    ap (λ (xs : List ℕ). xs ++ rest) (take_set lowest i card inside) ∙ append_assoc (take i lowest) (card ∷ []) rest
    ∙ ap (λ (xs : List ℕ). take i lowest ++ xs) (sym (lowest_split cards rest card are e without))

-- as many cards as are asked for are taken
pub all_taken : (lowest rest cards : List ℕ) (i n : ℕ) → length lowest ≡ n → n ≤ i → take i lowest ++ rest ≡ cards → lowest ≡ take n cards
all_taken lowest rest cards i n long past e =
    sym (take_all n lowest (omega arith)) ∙ sym (take-append-le n lowest rest (omega arith))
    ∙ ap (take n) (ap (λ (xs : List ℕ). xs ++ rest) (sym (take_all i lowest (omega arith))) ∙ e)
