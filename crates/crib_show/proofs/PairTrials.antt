-- The least and the most that are found so far, while pairs of ranks are tried.
use Rattle.std.proofs.Common.{◌≡◌, ◌⊎◌, ℕ, ◌+◌, ◌-◌, ◌*◌, ◌/◌, ◌%◌, ◌<◌, ◌≤◌, min}
use Rattle.std.proofs.Common.{sym, ◌∙◌, inl, inr, subst, arith}
use Rattle.std.proofs.lemmas.Bool.{cases_lt}
use Rattle.std.proofs.lemmas.Bool.Decides.{nat_tests}
use Rattle.crib_cards.specs.Cards.{IsRank, card_of, rank_of, suit_of}
use Rattle.crib_show.specs.Private.Extremes.{least_of_ranks}
use Rattle.crib_show.proofs.LoopTrials.{AreTried, HoldsBefore, IsLeastBefore}
use Rattle.crib_show.specs.Private.Extremes.{no_crib}
use Rattle.crib_show.specs.declared.deals.WorstShow.{WorstShow}

-- ---- numbers

min_is : (a b : ℕ) → (min a b ≡ a) ⊎ (min a b ≡ b)
min_is a b = elim (cases_lt a b) [ inl less ↦ inl (omega arith) | inr more ↦ inr (omega arith) ]

pub regroup : (a b c d : ℕ) → a ≡ b → a + c + d ≡ b + (c + d)
regroup a b c d same = omega arith

-- the least of four numbers, one for each suit
abbrev least_of_four : (ℕ → ℕ) → ℕ
least_of_four f = min (min (min (f 0) (f 1)) (f 2)) (f 3)

pub four_below : (f : ℕ → ℕ) (suit : ℕ) → suit < 4 → least_of_four f ≤ f suit
four_below f suit small = grind (arith, nat_tests)

four_cases : (a b c d : ℕ) → (let least : ℕ = min (min (min a b) c) d in (least ≡ a) ⊎ ((least ≡ b) ⊎ ((least ≡ c) ⊎ (least ≡ d))))
four_cases a b c d = grind (arith, nat_tests)

pub four_is : (f : ℕ → ℕ) → (suit : ℕ) × (suit < 4) × (least_of_four f ≡ f suit)
four_is f = elim (four_cases (f 0) (f 1) (f 2) (f 3)) [
  | inl is ↦ (0, omega arith, is)
  | inr (inl is) ↦ (1, omega arith, is)
  | inr (inr (inl is)) ↦ (2, omega arith, is)
  | inr (inr (inr is)) ↦ (3, omega arith, is)
]

pub card_back : (card : ℕ) → card_of (rank_of card) (suit_of card) ≡ card
card_back card = back card
  where
    back : (card : ℕ) → 4 * (card / 4 + 1 - 1) + card % 4 ≡ card
    back card = omega arith

pub rank_back : (rank suit : ℕ) → suit < 4 → 1 ≤ rank → rank_of (card_of rank suit) ≡ rank
rank_back rank suit small some = back rank suit small some
  where
    back : (rank suit : ℕ) → suit < 4 → 1 ≤ rank → (4 * (rank - 1) + suit) / 4 + 1 ≡ rank
    back rank suit small some = omega arith

-- ---- pairs of ranks, one after another

sooner : (first second p q : ℕ) → AreTried first (second + 1) p q → AreTried first second p q ⊎ ((p ≡ first) × (q ≡ second))
sooner first second p q tried = grind (arith, nat_tests)

row_sooner : (first second p q : ℕ) → 14 ≤ second → IsRank q → p ≤ q → AreTried (first + 1) (first + 1) p q → AreTried first second p q
row_sooner first second p q past is_q order tried = grind (arith, nat_tests)

pub all_tried : (first second p q : ℕ) → IsRank p → 14 ≤ first → AreTried first second p q
all_tried first second p q range past = inl (omega (arith, range.1))

-- one more pair is tried, of ranks that have those numbers
pub next_pair : {P Q : ℕ → ℕ → Type 0} (first second p q : ℕ) → HoldsBefore P first second → ((a b : ℕ) → P a b → Q a b) → p ≡ first → q ≡ second → Q p q →
    HoldsBefore Q first (second + 1)
next_pair {P} {Q} first second p q before more is_p is_q here = record {
  each = λ a b is_a is_b order tried.
      elim (sooner first second a b tried) [
        | inl earlier ↦ more a b (before.each a b is_a is_b order earlier)
        | inr same ↦ subst (λ k. Q k b) (is_p ∙ sym same.0) (subst (Q p) (is_q ∙ sym same.1) here)
      ];
}

pub next_row : {P : ℕ → ℕ → Type 0} (first second : ℕ) → HoldsBefore P first second → 14 ≤ second → HoldsBefore P (first + 1) (first + 1)
next_row first second before past = record {
  each = λ p q is_p is_q order tried. before.each p q is_p is_q order (row_sooner first second p q past is_q order tried);
}

pub least_next : (worst : WorstShow) (first second p q least next : ℕ) → IsLeastBefore worst first second least → p ≡ first → q ≡ second →
    IsRank p → IsRank q → next ≡ min least (least_of_ranks worst p q) → IsLeastBefore worst first (second + 1) next
least_next worst first second p q least next before is_p is_q range_p range_q is = record {
  all = next_pair first second p q before.all (λ a b less. omega (arith, is, less)) is_p is_q (omega (arith, is));
  some = elim (min_is least (least_of_ranks worst p q)) [
    | inl old ↦ subst (λ k. (k ≡ no_crib) ⊎ ((p : ℕ) × (q : ℕ) × IsRank p × IsRank q × (k ≡ least_of_ranks worst p q))) (sym (is ∙ old)) before.some
    | inr new ↦ inr (p, q, range_p, range_q, is ∙ new)
  ];
}
