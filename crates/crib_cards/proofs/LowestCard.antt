-- Lemmas about walking through a set of cards from its lowest card on.
use Rattle.std.proofs.Common.{◌≡◌, ℕ, ◌<◌, true, List, [], ◌∷◌, length, Some, None, sym, ap, ◌∙◌, arith}
use Rattle.crib_cards.specs.Cards.{IsCard}
use Rattle.crib_cards.specs.Sets.{has, set_without, IsCardSet, first_of_list}
use Rattle.crib_cards.proofs.SetFacts.{in_set_where}
use Rattle.crib_cards.proofs.SetWalks.{lowest_split as split_at_lowest}

-- a set is its lowest card, and then the set of the others
pub lowest_split : (cards rest : List ℕ) (card : ℕ) → IsCardSet cards → Some card ≡ first_of_list cards → rest ≡ set_without cards card → cards ≡ card ∷ rest
lowest_split cards rest card are e is = split_at_lowest cards card are e ∙ ap (λ xs. card ∷ xs) (sym is)

pub lowest_none : (cards : List ℕ) → None ≡ first_of_list cards → cards ≡ []
lowest_none [] e = λ i. []
lowest_none (first ∷ rest) e = absurd cc

pub rest_smaller : (cards rest : List ℕ) (card : ℕ) → IsCardSet cards → Some card ≡ first_of_list cards → rest ≡ set_without cards card →
    length rest < length cards
rest_smaller cards rest card are e is = let one = ap length (lowest_split cards rest card are e is) in omega (arith, one)

-- each member of a set is a card of the pack
pub in_set : (cards : List ℕ) (card : ℕ) → IsCardSet cards → has cards card ≡ true → IsCard card
in_set cards card is h = (in_set_where (has cards) card (ap (λ xs. has xs card) (sym is) ∙ h)).0
