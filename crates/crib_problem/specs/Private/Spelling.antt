-- The parts of a line that functions of their own write.
use Rattle.std.specs.Prelude.{ℕ, List, ◌∷◌}
use Rattle.crib_cards.specs.CardText.{card_text}
use Rattle.crib_text.specs.Spelling.{space}

-- a space and the text of a card
abbrev pub spaced_card : ℕ → List ℕ
spaced_card card = space ∷ card_text card
