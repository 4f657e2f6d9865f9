-- The line of a keyword and some cards, as it is written.
use Rattle.std.proofs.Common.{◌≡◌, ℕ, List, [], ◌∷◌, ◌++◌, map, sym, ap, append_assoc}
use Rattle.std.specs.List.{flat_map}
use Rattle.std.proofs.lemmas.List.{append-nil}
use Rattle.crib_cards.specs.CardText.{card_text}
use Rattle.crib_text.specs.Spelling.{space, line_feed, line_bytes, line_text}
use Rattle.crib_problem.specs.Private.Spelling.{spaced_card}

card_words : (keyword : List ℕ) (cards : List ℕ) → line_bytes (keyword ∷ map card_text cards) ≡ keyword ++ flat_map spaced_card cards
card_words keyword [] = sym (append-nil keyword)
card_words keyword (card ∷ cards) = ap (λ (rest : List ℕ). keyword ++ space ∷ rest) (card_words (card_text card) cards)

pub cards_line : (old keyword : List ℕ) (cards : List ℕ) → ((old ++ keyword) ++ flat_map spaced_card cards) ++ line_feed ∷ [] ≡ old
    ++ line_text (keyword ∷ map card_text cards)
cards_line old keyword cards = rw (card_words keyword cards) (simp append_assoc)
