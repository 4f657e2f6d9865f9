-- Texts of cards: two different cards have different ones, and some bytes begin none.
use Rattle.std.proofs.Common.{◌≡◌, ℕ, true, false, eqb, List, ◌++◌, sym, ◌∙◌}
use Rattle.std.proofs.lemmas.Bool.{agree_below, agree_below_at, true≢false, eq-eqb}
use Rattle.crib_cards.specs.Cards.{IsCard, rank_of}
use Rattle.crib_cards.specs.CardText.{card_text, rank_letter}
use Rattle.crib_cards.proofs.CardTextLemmas.{card_text-injective}

pub same_cards : (card card' : ℕ) (rest rest' : List ℕ) → IsCard card → IsCard card' → card_text card ++ rest ≡ card_text card' ++ rest' →
    (card ≡ card') × (rest ≡ rest')
same_cards card card' rest rest' is is' same =
    (card_text-injective card card' is is' cc, cc)

-- no card begins with a byte that is the letter of no rank
pub no_card : (byte card : ℕ) → agree_below (λ c. eqb (rank_letter (rank_of c)) byte) (λ _. false) 52 ≡ true → IsCard card →
    rank_letter (rank_of card) ≡ byte → ⊥
no_card byte card none is same =
    true≢false (sym (eq-eqb (rank_letter (rank_of card)) byte same)
    ∙ agree_below_at (λ c. eqb (rank_letter (rank_of c)) byte) (λ _. false) 52 card none is)
