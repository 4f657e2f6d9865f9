-- Proves that the spelling of a problem is read as that problem.
use Rattle.std.proofs.Common.{◌≡◌, ℕ, ◌+◌, ◌*◌, ◌≤◌, true, false, List, [], ◌∷◌, length, map, Ok, codes, decimal, refl, sym}
use Rattle.std.proofs.Common.{◌∙◌, arith}
use Rattle.std.proofs.lemmas.Fmt.{length-decimal-le}
use Rattle.std.proofs.lemmas.List.{length-map}
use Rattle.std.proofs.lemmas.Bool.Decides.{nat_tests}
use Rattle.crib_cards.specs.Cards.{IsCard}
use Rattle.crib_cards.specs.Sets.{has}
use Rattle.crib_cards.specs.CardText.{card_text}
use Rattle.crib_cards.specs.declared.sides.Side.{Side}
use Rattle.crib_cards.specs.declared.sides.Side.TheVariants.{Owner, Opponent}
use Rattle.crib_cards.proofs.CardReadLemmas.{card_read-card_text, card_text-word, card_texts-words}
use Rattle.crib_cards.proofs.Members.{has_here, has_there, distinct_parts}
use Rattle.crib_text.proofs.SpellingLemmas.{is_word, is_word-decimal}
use Rattle.crib_text.specs.Reading.{◌>>=◌, number_in}
use Rattle.crib_text.proofs.ReadingLemmas.{bind_ok, number_spelled, number_found}
use Rattle.crib_problem.specs.declared.problem.Version.{Version}
use Rattle.crib_problem.specs.declared.problem.Version.TheVariants.{One, Two}
use Rattle.crib_problem.specs.Setup.{Setup}
use Rattle.crib_cards.specs.Words.{side_word}
use Rattle.crib_problem.specs.Spelling.{version_number, version_word}
use Rattle.crib_problem.specs.Reading.{version_of_number, version_in, side_in, dealer_in, both_scores, scores_in, new_card, new_cards, cards_in_line}
use Rattle.crib_problem.specs.Reading.{starter_in}
use Rattle.crib_problem.proofs.CardLemmas.{card_in-some}
use Rattle.crib_text.proofs.Forms.{IsWordForm, AreWordsForm, words_as, keyword_form, named_form, each_form}
use Rattle.crib_problem.proofs.ActForms.{card_form}
use Rattle.crib_problem.proofs.LinesReadAreSpelled.{AreNew, version_found, score_form, scores_found, card_found, cards_found}
use Rattle.crib_problem.proofs.NamedWords.{side_called_is}

-- ---- the words of each line

side_is : (side : Side) → (side_in (side_word side) ≡ Ok side) × (is_word (side_word side) ≡ true) × (length (side_word side) ≤ 8)
unfolding side_in
side_is Owner = (refl, refl, omega arith)
side_is Opponent = (refl, refl, omega arith)

version_is : (version : Version) → (version_of_number (version_number version) ≡ Ok version) × (version_number version ≤ 2)
unfolding version_of_number
version_is One = (refl, omega arith)
version_is Two = (refl, omega arith)

-- ---- what each line is read as

new_card_spelled : (known : List ℕ) (card : ℕ) → IsCard card → has known card ≡ false → new_card known (card_text card) ≡ Ok card
unfolding new_card
new_card_spelled known card is fresh = rw (card_in-some (card_text card) card (card_read-card_text card is), fresh) refl

-- ---- new cards

new_cards_spelled : (known cards : List ℕ) → AreNew known cards → new_cards known (map card_text cards) ≡ Ok cards
unfolding new_cards
new_cards_spelled known [] new = refl
new_cards_spelled known (card ∷ cards) new =
    let parts = distinct_parts card cards new.distinct in
    let rest : AreNew (card ∷ known) cards = record {
      all_cards = new.all_cards.1;
      distinct = parts.1;
      fresh = λ other h. grind (arith, nat_tests, h, parts.0, new.fresh other (has_there card other cards h));
    } in
    rw (new_card_spelled known card new.all_cards.0 (new.fresh card (has_here card cards)), new_cards_spelled (card ∷ known) cards rest) refl

-- ---- the seven lines

-- the problem with no opening
abbrev pub unplayed : Setup → Setup
unplayed p = record p { played = [] }

-- ---- forms

version_word_form : IsWordForm (λ word. number_in word >>= version_of_number) version_word (λ version. Unit {0}) 1
version_word_form = record {
  found = λ given version e.
      let a = bind_ok (number_in given) _ version e in
      ((number_found given a.0 a.1).0 ∙ version_found a.0 version a.2, tt);
  spelled = λ version is. rw (number_spelled (version_number version) (omega (arith, (version_is version).1))) (version_is version).0;
  full = λ version is. is_word-decimal (version_number version) (omega (arith, (version_is version).1));
  short = λ version is. let small = (version_is version).1 in length-decimal-le 1 (version_number version) (omega arith) (omega arith) (omega arith);
}

pub version_form : AreWordsForm version_in (λ version. codes "problem" ∷ version_word version ∷ []) (λ version. Unit {0}) (λ version. 10)
unfolding version_in
version_form = named_form (codes "problem") refl version_word_form

side_form : IsWordForm side_in side_word (λ side. Unit {0}) 8
unfolding side_in
side_form = record {
  found = λ given side e. (side_called_is side_word given side e, tt);
  spelled = λ side is. (side_is side).0;
  full = λ side is. (side_is side).1;
  short = λ side is. (side_is side).2;
}

pub dealer_form : AreWordsForm dealer_in (λ side. codes "dealer" ∷ side_word side ∷ []) (λ side. Unit {0}) (λ side. 16)
unfolding dealer_in
dealer_form = named_form (codes "dealer") refl side_form

both_form : AreWordsForm both_scores (λ scores. decimal scores.owner ∷ decimal scores.opponent ∷ [])
    (λ scores. (scores.owner ≤ 120) × (scores.opponent ≤ 120)) (λ scores. 8)
unfolding both_scores
both_form = record {
  found = scores_found;
  spelled = λ scores is. rw (score_form.spelled scores.owner is.0, score_form.spelled scores.opponent is.1) refl;
  full = λ scores is. rw (score_form.full scores.owner is.0, score_form.full scores.opponent is.1) refl;
  short = λ scores is. omega (arith, score_form.short scores.owner is.0, score_form.short scores.opponent is.1);
}

pub scores_form : AreWordsForm scores_in (λ scores. codes "score" ∷ decimal scores.owner ∷ decimal scores.opponent ∷ [])
    (λ scores. (scores.owner ≤ 120) × (scores.opponent ≤ 120)) (λ scores. 14)
unfolding scores_in
scores_form = words_as (keyword_form (codes "score") 2 refl both_form) (λ scores is. is.1) (λ scores is. (refl, is)) (λ scores is. omega arith)

first_card_form : IsWordForm (new_card []) card_text IsCard 2
first_card_form = record {
  found = λ given card e. let is = card_found [] given card e in (is.0, is.1);
  spelled = λ card is. new_card_spelled [] card is refl;
  full = card_text-word;
  short = λ card is. omega arith;
}

pub starter_form : AreWordsForm starter_in (λ card. codes "starter" ∷ card_text card ∷ []) IsCard (λ card. 11)
unfolding starter_in
starter_form = named_form (codes "starter") refl first_card_form

new_cards_form : (known : List ℕ) → AreWordsForm (new_cards known) (map card_text) (AreNew known) (λ cards. 3 * length cards)
new_cards_form known = record {
  found = cards_found known;
  spelled = new_cards_spelled known;
  full = λ cards new. card_texts-words cards new.all_cards;
  short = λ cards new. (each_form card_form).short cards new.all_cards;
}

pub cards_form : (keyword : List ℕ) (count : ℕ) (known : List ℕ) → is_word keyword ≡ true →
    AreWordsForm (cards_in_line keyword count known) (λ cards. keyword ∷ map card_text cards) (λ cards. (length cards ≡ count) × AreNew known cards)
    (λ cards. length keyword + 1 + 3 * count)
unfolding cards_in_line
cards_form keyword count known is_keyword =
    words_as (keyword_form keyword count is_keyword (new_cards_form known))
    (λ cards is. (sym (length-map cards card_text) ∙ is.0, is.1)) (λ cards is. (length-map cards card_text ∙ is.0, is.1))
    (λ cards is. omega (arith, is.0))
