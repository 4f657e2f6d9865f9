-- The forms of a card, of an act, and of the line that says how many acts follow.
use Rattle.std.proofs.Common.{◌≡◌, ℕ, ◌+◌, ◌≤◌, true, List, [], ◌∷◌, length, decimal, arith}
use Rattle.crib_cards.specs.Cards.{IsCard}
use Rattle.crib_cards.specs.CardText.{card_text}
use Rattle.crib_cards.proofs.CardReadLemmas.{card_text-word}
use Rattle.crib_text.proofs.SpellingLemmas.{is_word}
use Rattle.crib_text.specs.Refusals.{bad_number}
use Rattle.crib_text.proofs.Forms.{IsWordForm, AreWordsForm, words_as, most_form, named_form}
use Rattle.crib_problem.specs.Setup.{IsMove}
use Rattle.crib_problem.specs.Spelling.{act_line}
use Rattle.crib_problem.specs.Reading.{card_in, acts_count_in, act_in, most_acts}
use Rattle.crib_problem.proofs.TurnLemmas.{card_found, card_spelled, act_found, act_spelled, act_short, act_words}

pub card_form : IsWordForm card_in card_text IsCard 2
card_form = record { found = card_found; spelled = card_spelled; full = card_text-word; short = λ card is. omega arith }

pub act_form : AreWordsForm act_in act_line (λ act. IsMove act.what) (λ act. 7)
act_form = record { found = act_found; spelled = act_spelled; full = act_words; short = act_short }

pub count_form : (keyword : List ℕ) → is_word keyword ≡ true →
    AreWordsForm (acts_count_in keyword) (λ count. keyword ∷ decimal count ∷ []) (λ count. count ≤ most_acts) (λ count. length keyword + 4)
unfolding acts_count_in
count_form keyword is =
    words_as (named_form keyword is (most_form bad_number most_acts 2 (omega arith) (omega arith) (omega arith)))
    (λ count few. few) (λ count few. few) (λ count few. omega arith)
