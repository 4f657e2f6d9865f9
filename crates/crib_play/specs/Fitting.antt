-- Which cards fit at a count.
use Rattle.std.specs.Prelude.{ℕ, ◌+◌, nat_le, Bool}
use Rattle.crib_cards.specs.Cards.{card_value}

-- whether a card fits at a count: the count with it is at most 31
abbrev pub fits_at : ℕ → ℕ → Bool
fits_at count card = nat_le (count + card_value card) 31
