-- Proves that some card of a set fits exactly where the lowest one does.
use Rattle.std.proofs.Common.{rules}
use Rattle.std.proofs.Common.{◌≡◌, ℕ, ◌+◌, true, false, List, [], ◌∷◌, Some, None, refl}
use Rattle.std.specs.List.{list_any}
use Rattle.std.proofs.lemmas.Bool.{ltb-true, lt-leb, leb-false}
use Rattle.crib_cards.specs.Cards.{card_value}
use Rattle.crib_cards.specs.Order.{are_rising}
use Rattle.crib_cards.specs.Sets.{has, IsCardSet, first_of_list}
use Rattle.crib_cards.proofs.SetFacts.{are_rising-set_where}
use Rattle.crib_play.specs.Fitting.{fits_at}

-- a card that is later in a rising list has no lower value, so it does not fit either
none_later : (count low : ℕ) (cards : List ℕ) → are_rising (low ∷ cards) ≡ true → fits_at count low ≡ false → list_any (fits_at count) cards ≡ false
none_later count low [] rising out = refl
none_later count low (card ∷ cards) rising out =
    search (rules, ltb-true low card, leb-false (count + card_value low) 31 out, lt-leb (count + card_value card) 31, none_later count card cards)

-- some card of a set fits exactly where the lowest one does
pub lowest_fits : (cards : List ℕ) (count card : ℕ) → IsCardSet cards → Some card ≡ first_of_list cards → fits_at count card ≡ list_any (fits_at count) cards
lowest_fits [] count card set first = absurd cc
lowest_fits (lowest ∷ cards) count card set first = search (rules, are_rising-set_where (has (lowest ∷ cards)), none_later count lowest cards)

-- no card of an empty set fits
pub none_fits : (cards : List ℕ) (count : ℕ) → None ≡ first_of_list cards → false ≡ list_any (fits_at count) cards
none_fits [] count none = refl
none_fits (card ∷ cards) count none = absurd cc
