-- Proves that each line that is read as part of a problem is the spelling of that part.
use Rattle.std.proofs.Common.{◌≡◌, ℕ, ◌≤◌, true, false, not, List, [], ◌∷◌, ◌++◌, map, Ok}
use Rattle.std.proofs.Common.{decimal, refl, ap, subst, arith}
use Rattle.std.specs.List.{AllByRecursion}
use Rattle.std.proofs.lemmas.Bool.{not-true}
use Rattle.std.proofs.lemmas.Bool.Decides.{nat_tests}
use Rattle.crib_cards.specs.Cards.{IsCard}
use Rattle.crib_cards.specs.Sets.{has, are_distinct}
use Rattle.crib_cards.specs.CardText.{card_text}
use Rattle.crib_cards.specs.declared.sides.Scores.{Scores}
use Rattle.crib_text.specs.Reading.{unless_refused}
use Rattle.crib_text.proofs.ReadingLemmas.{bind_ok, unless_ok, ok_is}
use Rattle.crib_cards.proofs.CardReadLemmas.{card_read_is}
use Rattle.crib_cards.proofs.Members.{distinct_append}
use Rattle.crib_text.proofs.Forms.{IsWordForm, most_form}
use Rattle.crib_problem.specs.declared.problem.Version.{Version}
use Rattle.crib_problem.specs.Spelling.{version_number, version_word}
use Rattle.crib_problem.specs.Refusals.{same_card, bad_score}
use Rattle.crib_problem.specs.Reading.{version_of_number, score_in, both_scores, card_in, new_card, new_cards}
use Rattle.crib_problem.proofs.CardLemmas.{card_in_is}

pub version_found : (n : ℕ) (version : Version) → version_of_number n ≡ Ok version → decimal n ≡ version_word version
unfolding version_of_number
version_found n version e = ap decimal {x = n} {y = version_number version} (grind (arith, nat_tests, e))

pub score_form : IsWordForm score_in decimal (λ score. score ≤ 120) 3
unfolding score_in
score_form = most_form bad_score 120 3 (omega arith) (omega arith) (omega arith)

abbrev HasScores : List (List ℕ) → Scores → Type 0
HasScores words scores = (words ≡ decimal scores.owner ∷ decimal scores.opponent ∷ []) × ((scores.owner ≤ 120) × (scores.opponent ≤ 120))

pub scores_found : (words : List (List ℕ)) (scores : Scores) → both_scores words ≡ Ok scores → HasScores words scores
unfolding both_scores
scores_found (first ∷ second ∷ []) scores e =
    let a = bind_ok (score_in first) _ scores e in
    let b = bind_ok (score_in second) _ scores a.2 in
    let f = score_form.found first a.0 a.1 in
    let s = score_form.found second b.0 b.1 in
    subst (λ (v : Scores). HasScores (first ∷ second ∷ []) v) (ok_is _ scores b.2) (cc (f.0, s.0), (f.1, s.1))
scores_found words scores e = absurd cc

pub card_found : (known word : List ℕ) (card : ℕ) → new_card known word ≡ Ok card → (word ≡ card_text card) × IsCard card × (has known card ≡ false)
unfolding new_card
card_found known word card e =
    let a = bind_ok (card_in word) _ card e in
    let b = bind_ok (unless_refused same_card (not (has known a.0))) _ card a.2 in
    let is : a.0 ≡ card = ok_is a.0 card b.2 in
    let read = card_read_is word a.0 (card_in_is word a.0 a.1) in
    subst (λ (c : ℕ). (word ≡ card_text c) × IsCard c × (has known c ≡ false)) is (read.0, read.1, not-true _ (unless_ok _ same_card b.0 b.1))

-- cards that are not among the known ones, and no two of them alike
pub record AreNew (known cards : List ℕ) : Type 0 where
  pub all_cards : AllByRecursion IsCard cards
  pub distinct : are_distinct cards ≡ true
  pub fresh : (card : ℕ) → has cards card ≡ true → has known card ≡ false

-- a card is not among others that are all apart from it
pub not_among : (known others : List ℕ) (card : ℕ) → ((other : ℕ) → has others other ≡ true → has (card ∷ known) other ≡ false) → has others card ≡ false
not_among known others card apart = grind (arith, nat_tests, apart card)

pub cards_found : (known : List ℕ) (words : List (List ℕ)) (cards : List ℕ) → new_cards known words ≡ Ok cards
    → (words ≡ map card_text cards) × AreNew known cards
unfolding new_cards
cards_found known [] cards e =
    subst (λ (cs : List ℕ). ([] ≡ map card_text cs) × AreNew known cs) (ok_is [] cards e)
    (refl, record { all_cards = tt; distinct = refl; fresh = λ card h. absurd cc })
cards_found known (word ∷ words) cards e =
    let a = bind_ok (new_card known word) _ cards e in
    let b = bind_ok (new_cards (a.0 ∷ known) words) _ cards a.2 in
    let first = card_found known word a.0 a.1 in
    let rest = cards_found (a.0 ∷ known) words b.0 b.1 in
    let other = not_among known b.0 a.0 rest.1.fresh in
    subst (λ (cs : List ℕ). (word ∷ words ≡ map card_text cs) × AreNew known cs) (ok_is _ cards b.2) (
      cc (first.0, rest.0),
      record {
        all_cards = (first.1, rest.1.all_cards);
        distinct = rw (other, rest.1.distinct) refl;
        fresh = λ card h. grind (arith, nat_tests, h, first.2, rest.1.fresh card);
      },
    )

pub seven_distinct : (starter : ℕ) (hold thrown : List ℕ) → AreNew (starter ∷ []) hold → AreNew (starter ∷ hold) thrown →
    are_distinct (starter ∷ hold ++ thrown) ≡ true
seven_distinct starter hold thrown h t =
    distinct_append (starter ∷ hold) thrown (rw (not_among [] hold starter h.fresh, h.distinct) refl) t.distinct
    (λ card mine. grind (arith, nat_tests, t.fresh card, mine))
