-- Lemmas about sets that are built card by card, and sets that are walked from the lowest card on.
use Rattle.std.proofs.Common.{◌≡◌, ℕ, ◌+◌, ◌<◌, not, ◌&&◌, ◌||◌, List, [], ◌∷◌, ◌++◌, length, take, get_or, Some, refl, sym, ap, set}
use Rattle.std.proofs.Common.{◌∙◌, arith, zero, suc, subst}
use Rattle.std.proofs.lemmas.Bool.Decides.{nat_tests}
use Rattle.std.proofs.lemmas.List.{take_more}
use Rattle.std.proofs.Math.Bool.{or-false, and-true}
use Rattle.crib_cards.specs.Deals.{unseen_from}
use Rattle.crib_cards.specs.Sets.{has, set_of, set_with, set_with_all, set_without, set_without_all, IsCardSet, first_of_list}
use Rattle.crib_cards.proofs.SetLemmas.{has-set_where, set_where_agree}
use Rattle.crib_cards.proofs.SetFacts.{has-append, set_without-lowest}

-- ---- one card more

-- the cards of a list before an index, and the one with that index
pub take_card : (cards : List ℕ) (i card : ℕ) → i < length cards → card ≡ get_or cards i card → take (i + 1) cards ≡ take i cards ++ card ∷ []
take_card cards i card inside is = take_more cards i card inside ∙ ap (λ (k : ℕ). take i cards ++ k ∷ []) (sym is)

-- a set changed by one card of a list after another is changed by all of them
pub each_more : (one : List ℕ → ℕ → List ℕ) (all : List ℕ → List ℕ → List ℕ) → ((cards more : List ℕ) (card : ℕ) →
    one (all cards more) card ≡ all cards (more ++ card ∷ [])) → (cards more set next : List ℕ) (i card : ℕ) → i < length more → card ≡ get_or more i card →
    next ≡ one set card → set ≡ all cards (take i more) → next ≡ all cards (take (i + 1) more)
each_more one all ends cards more set next i card inside is step so_far =
    step ∙ ap (λ (xs : List ℕ). one xs card) so_far ∙ ends cards (take i more) card ∙ ap (all cards) (sym (take_card more i card inside is))

-- ---- a set and all the cards of a list

pub set_with_all-none : (cards : List ℕ) → IsCardSet cards → set_with_all cards [] ≡ cards
set_with_all-none cards set = set_where_agree _ (has cards) (λ card is. or-false (has cards card)) ∙ sym set

pub set_with-set_with_all : (cards more : List ℕ) (card : ℕ) → set_with (set_with_all cards more) card ≡ set_with_all cards (more ++ card ∷ [])
set_with-set_with_all cards more card =
    set_where_agree _ _
    (λ other is. grind (arith, nat_tests, has-set_where (λ k. has cards k || has more k) other is, has-append more (card ∷ []) other))

-- the set of a list with all the cards of another list is the set of both lists
pub set_with_all-set_of : (cards more : List ℕ) → set_with_all (set_of cards) more ≡ set_of (cards ++ more)
set_with_all-set_of cards more =
    set_where_agree _ _ (λ card is. grind (arith, nat_tests, has-set_where (has cards) card is, has-append cards more card))

-- ---- a set without any card of a list

pub set_without_all-none : (cards : List ℕ) → IsCardSet cards → set_without_all cards [] ≡ cards
set_without_all-none cards set = set_where_agree _ (has cards) (λ card is. and-true (has cards card)) ∙ sym set

pub set_without-set_without_all : (cards others : List ℕ) (card : ℕ) →
    set_without (set_without_all cards others) card ≡ set_without_all cards (others ++ card ∷ [])
set_without-set_without_all cards others card =
    set_where_agree _ _
    (λ other is. grind (arith, nat_tests, has-set_where (λ k. has cards k && not (has others k)) other is, has-append others (card ∷ []) other))

-- the unseen cards without the cards of a list are those that are in neither list
pub set_without_all-unseen_from : (known more : List ℕ) → set_without_all (unseen_from known) more ≡ unseen_from (known ++ more)
set_without_all-unseen_from known more =
    set_where_agree _ _ (λ card is. grind (arith, nat_tests, has-set_where (λ k. not (has known k)) card is, has-append known more card))

-- ---- the lowest card

-- a set is its lowest card, and then the set without that card
pub lowest_split : (cards : List ℕ) (card : ℕ) → IsCardSet cards → Some card ≡ first_of_list cards → cards ≡ card ∷ set_without cards card
lowest_split [] card set first = absurd cc
lowest_split (lowest ∷ cards) card set first =
    let same : lowest ≡ card = cc in
    subst (λ k. lowest ∷ cards ≡ k ∷ set_without (lowest ∷ cards) k) same
    (ap (λ (xs : List ℕ). lowest ∷ xs) (sym (set_without-lowest (has (lowest ∷ cards)) lowest cards (sym set))))

-- the set without its lowest card is shorter by one
pub length-without_lowest : (cards : List ℕ) (card : ℕ) → IsCardSet cards → Some card ≡ first_of_list cards → length (set_without cards card) + 1 ≡ length cards
length-without_lowest cards card set first =
    omega (arith, ap length (lowest_split cards card set first))

pub take_set : (hold : List ℕ) (len card : ℕ) → len < length hold → take (len + 1) (set hold len card) ≡ take len hold ++ card ∷ []
take_set [] len card inside = absurd (omega arith)
take_set (first ∷ hold) zero card inside = refl
take_set (first ∷ hold) (suc len) card inside =
    let at : suc len + 1 ≡ suc (len + 1) = omega arith in
    rw at (ap (λ (cs : List ℕ). first ∷ cs) (take_set hold len card (omega arith)))
