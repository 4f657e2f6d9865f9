-- Pieces that are put on pages: words for sides, and cards.
use Rattle.std.specs.Prelude.{ℕ, List, ◌∷◌, ◌++◌, flat_map, codes, decimal, if◌then◌else◌}
use Rattle.crib_cards.specs.CardText.{card_text}
use Rattle.crib_cards.specs.Sides.{same_side}
use Rattle.crib_cards.specs.declared.sides.Side.{Side}
use Rattle.crib_cards.specs.declared.sides.Side.TheVariants.{Opponent}
use Rattle.crib_text.specs.Spelling.{space}

-- the word for a side in a deal of this dealer: `dealer` or `pone`
abbrev pub role_word : Side → Side → List ℕ
role_word dealer side = if same_side dealer side then codes "dealer" else codes "pone"

-- a card after a space
abbrev pub spaced_card : ℕ → List ℕ
spaced_card card = space ∷ card_text card

-- cards, each after a space
abbrev pub spaced_cards : List ℕ → List ℕ
spaced_cards cards = flat_map spaced_card cards

-- the opponent's part in a deal of this dealer, and score
unfoldable pub other_score : Side → ℕ → List ℕ
other_score dealer score =
    codes ", and the " ++ role_word dealer Opponent ++ codes " is at " ++ decimal score
