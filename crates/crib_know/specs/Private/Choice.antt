-- The first cards that the opponent may have held, chosen one by one. These definitions follow the code. The contract
-- of `some_deal` states, by `IsFirstDeal`, that they are those of the first hidden deal that agrees.
use Rattle.std.specs.Prelude.{ℕ, ◌-◌, nat_lt, nat_le, ◌&&◌, if◌then◌else◌, List, [], ◌∷◌}
use Rattle.crib_cards.specs.Cards.{rank_of, card_value}
use Rattle.crib_cards.specs.Sets.{has, set_with, count_at, count_rank}

-- a hold with the cards added that are chosen from a list, in its order. A card that is not in the hold yet is chosen
-- if the hold has fewer cards of its rank than were seen. Otherwise it is chosen if it has at least the least value and
-- some card that the opponent has left is not chosen yet
unfoldable pub chosen_cards : List ℕ → ℕ → List ℕ → ℕ → List ℕ → List ℕ
chosen_cards seen least hold left [] = hold
chosen_cards seen least hold left (card ∷ cards) =
    if has hold card then chosen_cards seen least hold left cards
    else if nat_lt (count_rank (rank_of card) hold) (count_at seen (rank_of card))
    then chosen_cards seen least (set_with hold card) left cards
    else if nat_lt 0 left && nat_le least (card_value card)
    then chosen_cards seen least (set_with hold card) (left - 1) cards
    else chosen_cards seen least hold left cards
