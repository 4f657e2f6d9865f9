-- Equal ranks in suit order: of the cards of one rank a player plays the lowest first.
use Rattle.std.specs.Prelude.{ℕ, ◌==◌, nat_lt, Bool, true, not, ◌&&◌, ◌||◌, List, [], ◌∷◌, length}
use Rattle.std.specs.List.{list_any}
use Rattle.crib_cards.specs.Cards.{rank_of}
use Rattle.crib_cards.specs.Sets.{has}

-- whether a card is played in suit order: each lower card of its rank in the hold was played before it
abbrev pub is_in_turn : List ℕ → List ℕ → ℕ → Bool
is_in_turn hold before card =
    not (list_any (λ other. (rank_of other == rank_of card) && nat_lt other card && not (has before other)) hold)

-- whether a player plays equal ranks in suit order. The first few cards belong to the opening and are exempt. The list
-- has the last card first
abbrev pub is_in_suit_order : ℕ → List ℕ → List ℕ → Bool
is_in_suit_order few hold [] = true
is_in_suit_order few hold (card ∷ cards) =
    nat_lt (length cards) few || (is_in_turn hold cards card && is_in_suit_order few hold cards)
