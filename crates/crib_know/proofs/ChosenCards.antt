-- What a hold has after the cards are chosen.
use Rattle.std.proofs.lemmas.Bool.{cond_both}
use Rattle.std.proofs.lemmas.Bool.Decides.{nat_tests}
use Rattle.std.proofs.Common.{◌≡◌, ◌⊎◌, ℕ, ◌+◌, ◌-◌, ◌<◌, ◌≤◌, min, max, true, false, ◌&&◌, ◌||◌, eqb, ltb, leb, List, [], ◌∷◌, length, refl, ap}
use Rattle.std.proofs.Common.{sym, ◌∙◌, inl, inr, arith}
use Rattle.std.proofs.lemmas.Bool.{and_parts, and_cases, both_ways, eq-eqb}
use Rattle.std.proofs.lemmas.Bool.{ltb-true, ltb-false, leb-true, or_left, or_right}
use Rattle.crib_cards.specs.Cards.{IsCard, rank_of, rank_value, card_value}
use Rattle.crib_cards.specs.Sets.{has, IsCardSet, set_with, count_rank, rank_counts, count_at}
use Rattle.crib_cards.specs.Order.{are_rising}
use Rattle.crib_cards.proofs.CountLemmas.{count_at-rank_counts}
use Rattle.crib_cards.proofs.LowestCard.{in_set}
use Rattle.crib_cards.proofs.Members.{has_here, has_there, has_cases, AreCards, rank_is}
use Rattle.crib_cards.proofs.SetCounts.{count_by-set_with, length-set_with}
use Rattle.crib_cards.proofs.SetFacts.{in_set_where, rising_above, rising_rest}
use Rattle.crib_cards.proofs.SetLemmas.{IsCardSet-set_where, has-set_where}
use Rattle.crib_know.specs.Private.Choice.{chosen_cards}
use Rattle.crib_know.proofs.CardLists.{one_if}
use Rattle.crib_know.proofs.ChosenRanks.{ranks_of}
use Rattle.crib_know.proofs.RankTotals.{total, total_add, total_one}

with_cases : (hold : List ℕ) (card other : ℕ) → has (set_with hold card) other ≡ true → (has hold other ≡ true) ⊎ (other ≡ card)
with_cases hold card other h = let there = (in_set_where (λ k. has hold k || eqb k card) other h).1 in grind (arith, nat_tests, there)

-- ---- with one more card of a rank: the count of a rank before and after, and how many were seen of it
below_most : (c r : ℕ) (after before seen value : ℕ → ℕ) (least held : ℕ) → held ≤ max (after r) (seen r) → after r ≡ before r + one_if (eqb c r) →
    (value c < least → before c < seen c) → value r < least → held ≤ max (before r) (seen r)
below_most c r after before seen value least held most more fewer below = grind (arith, nat_tests)

one_used : (c r : ℕ) (after before seen : ℕ → ℕ) → after r ≡ before r + one_if (eqb c r) → before c < seen c →
    min (after r) (seen r) ≡ one_if (eqb c r) + min (before r) (seen r)
one_used c r after before seen more less = grind (arith, nat_tests)

none_used : (c r : ℕ) (after before seen : ℕ → ℕ) → after r ≡ before r + one_if (eqb c r) → seen c ≤ before c → min (after r) (seen r) ≡ min (before r) (seen r)
none_used c r after before seen more most = grind (arith, nat_tests)

module _ (seen : List ℕ) (least whole : ℕ) where
  -- how many cards of a hold represent ranks that were seen
  abbrev pub used : List ℕ → ℕ
  used hold = total (λ r. min (count_rank r hold) (ranks_of seen r)) 1 13

  -- a card was passed over when these were held
  pub record Passed (first hold : List ℕ) (card : ℕ) : Type 0 where
    pub earlier : List ℕ
    pub set : IsCardSet earlier
    pub among : (other : ℕ) → has earlier other ≡ true → has hold other ≡ true
    pub below : (other : ℕ) → has earlier other ≡ true → (has first other ≡ true) ⊎ (other < card)
    pub enough : ranks_of seen (rank_of card) ≤ count_rank (rank_of card) earlier
    pub full : (card_value card < least) ⊎ (whole + used earlier ≤ length earlier)

  -- a hold has the first cards and those that are chosen from others
  pub record Chosen (first cards hold : List ℕ) : Type 0 where
    pub set : IsCardSet hold
    pub keeps : (card : ℕ) → has first card ≡ true → has hold card ≡ true
    pub within : (card : ℕ) → has hold card ≡ true → (has first card ≡ true) ⊎ (has cards card ≡ true)
    pub number : length hold ≤ whole + used hold
    pub low : (rank : ℕ) → rank_value rank < least → count_rank rank hold ≤ max (count_rank rank first) (ranks_of seen rank)
    pub passed : (card : ℕ) → has cards card ≡ true → has hold card ≡ false → Passed first hold card

  -- the next card is held already, or passed over
  skipped : (first : List ℕ) (card : ℕ) (cards hold : List ℕ) → (has hold card ≡ false → Passed first hold card) → Chosen first cards hold →
      Chosen first (card ∷ cards) hold
  skipped first card cards hold now next = grind (arith, nat_tests)

  module _ (first : List ℕ) (card : ℕ) (set : IsCardSet first) (is : IsCard card) (out : has first card ≡ false) where
    more : (rank : ℕ) → count_rank rank (set_with first card) ≡ count_rank rank first + one_if (eqb (rank_of card) rank)
    more rank = count_by-set_with (λ c. eqb (rank_of c) rank) first card set is out

    kept : (other : ℕ) → has first other ≡ true → has (set_with first card) other ≡ true
    kept other h = has-set_where (λ k. has first k || eqb k card) other (in_set first other set h) ∙ or_left (has first other) (eqb other card) h

    added_there : has (set_with first card) card ≡ true
    added_there = has-set_where (λ k. has first k || eqb k card) card is ∙ or_right (has first card) (eqb card card) (eq-eqb card card refl)

    -- the next card is chosen
    added : (cards hold : List ℕ) → are_rising (card ∷ cards) ≡ true →
        (card_value card < least → count_rank (rank_of card) first < ranks_of seen (rank_of card)) →
        Chosen (set_with first card) cards hold → Chosen first (card ∷ cards) hold
    added cards hold rising fewer next = record {
      set = next.set;
      keeps = λ other h. next.keeps other (kept other h);
      within = λ other h. elim (next.within other h) [
        | inl mine ↦ elim (with_cases first card other mine) [
          | inl old ↦ inl old
          | inr new ↦ inr (or_left (eqb card other) (has cards other) (eq-eqb card other (sym new)))
        ]
        | inr later ↦ inr (has_there card other cards later)
      ];
      number = next.number;
      low = λ rank below. below_most (rank_of card) rank (λ r. count_rank r (set_with first card)) (λ r. count_rank r first) (ranks_of seen) rank_value least
          (count_rank rank hold) (next.low rank below) (more rank) fewer below;
      passed = λ other h absent. elim (has_cases card other cards h) [
        | inl here ↦ absurd (both_ways (has hold other) absent (ap (has hold) (sym here) ∙ next.keeps card added_there))
        | inr later ↦
            let before = next.passed other later absent in
            let above = rising_above card cards other rising later in
            record {
              earlier = before.earlier;
              set = before.set;
              among = before.among;
              below = λ k held. elim (before.below k held) [
                | inl mine ↦ elim (with_cases first card k mine) [ inl old ↦ inl old | inr new ↦ inr (omega (arith, new, above)) ]
                | inr lower ↦ inr lower
              ];
              enough = before.enough;
              full = before.full;
            }
      ];
    }

    -- a card that represents a rank that was seen is used
    used_seen : count_rank (rank_of card) first < ranks_of seen (rank_of card) → used (set_with first card) ≡ used first + 1
    used_seen less =
        let rank = rank_is card is in
        let once = (total_one (rank_of card) 1 13).1 rank.0 (omega (arith, rank.1)) in
        let same : used (set_with first card) ≡ total (λ r. one_if (eqb (rank_of card) r) + min (count_rank r first) (ranks_of seen r)) 1 13 =
        (λ i. total (λ r. one_used (rank_of card) r (λ k. count_rank k (set_with first card)) (λ k. count_rank k first) (ranks_of seen) (more r) less i)
        1 13) in
        omega (arith, once, total_add (λ r. one_if (eqb (rank_of card) r)) (λ r. min (count_rank r first) (ranks_of seen r)) 1 13, same)

    -- another card is not used
    used_left : ranks_of seen (rank_of card) ≤ count_rank (rank_of card) first → used (set_with first card) ≡ used first
    used_left most =
        λ i. total (λ r. none_used (rank_of card) r (λ k. count_rank k (set_with first card)) (λ k. count_rank k first) (ranks_of seen) (more r) most i) 1 13

  pub chosen : (first : List ℕ) (left : ℕ) (cards : List ℕ) → IsCardSet first → AreCards cards → are_rising cards ≡ true →
      length first + left ≡ whole + used first → Chosen first cards (chosen_cards (rank_counts seen) least first left cards)
  unfolding chosen_cards
  chosen first left [] set are rising number = grind (arith, nat_tests)
  chosen first left (card ∷ cards) set are rising number =
      let is = are card (has_here card cards) in
      let at = count_at-rank_counts seen (rank_of card) (rank_is card is) in
      let then_chosen : (next : List ℕ) (then_left : ℕ) → IsCardSet next → length next + then_left ≡ whole + used next →
      Chosen next cards (chosen_cards (rank_counts seen) least next then_left cards) =
      λ next then_left next_set sum. chosen next then_left cards next_set (λ other h. are other (has_there card other cards h))
      (rising_rest card cards rising) sum in
      let C : List ℕ → Type 0 = λ hold. Chosen first (card ∷ cards) hold in
      let more_set : IsCardSet (set_with first card) = IsCardSet-set_where (λ other. has first other || eqb other card) in
      let passing = then_chosen first left set number in
      cond_both (has first card) _ _ C (λ held. skipped first card cards _ (λ out. absurd (both_ways _ out (passing.keeps card held))) passing)
      (λ out.
      let longer = length-set_with first card set is out in
      cond_both (ltb (count_rank (rank_of card) first) (count_at (rank_counts seen) (rank_of card))) _ _ C
      (λ less.
      let few = ltb-true (count_rank (rank_of card) first) (count_at (rank_counts seen) (rank_of card)) less in
      added first card set is out cards _ rising (λ low. omega (arith, few, at))
      (then_chosen (set_with first card) left more_set (omega (arith, longer, used_seen first card set is out (omega (arith, few, at)), number))))
      (λ most.
      let enough : ranks_of seen (rank_of card) ≤ count_rank (rank_of card) first =
      omega (arith, ltb-false (count_rank (rank_of card) first) (count_at (rank_counts seen) (rank_of card)) most, at) in
      cond_both (ltb 0 left && leb least (card_value card)) _ _ C
      (λ both.
      let parts = and_parts (ltb 0 left) (leb least (card_value card)) both in
      added first card set is out cards _ rising (λ low. absurd (omega (arith, low, leb-true least (card_value card) parts.1)))
      (then_chosen (set_with first card) (left - 1) more_set (omega (arith, longer, used_left first card set is out enough, number, ltb-true 0 left parts.0))))
      (λ neither. skipped first card cards _
      (λ absent. record {
        earlier = first;
        set = set;
        among = passing.keeps;
        below = λ other h. inl h;
        enough = enough;
        full = grind (arith, nat_tests, and_cases (ltb 0 left) (leb least (card_value card)) neither);
      })
      passing)))
