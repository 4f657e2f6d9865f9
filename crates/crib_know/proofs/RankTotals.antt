-- How many ranks a list has, from the counts of the thirteen ranks.
use Rattle.std.proofs.lemmas.Bool.Decides.{nat_tests}
use Rattle.std.proofs.Common.{◌≡◌, ◌⊎◌, ℕ, zero, suc, ◌+◌, ◌<◌, ◌≤◌, true, false, eqb, List, [], ◌∷◌, map, length, refl, ◌∙◌, inl, inr, arith}
use Rattle.std.proofs.lemmas.Bool.{cases_lt, both_ways, eqb-true}
use Rattle.std.proofs.lemmas.List.{length-map}
use Rattle.crib_cards.specs.Cards.{IsRank, rank_of}
use Rattle.crib_cards.specs.Sets.{has, count_rank}
use Rattle.crib_know.proofs.CardLists.{one_if, count_map, found_by, each_member}
use Rattle.crib_know.proofs.ChosenRanks.{ranks_of}
use Rattle.crib_cards.proofs.Members.{has_here, has_there, AreCards, rank_is}
use Rattle.crib_cards.proofs.SetCounts.{count_cons}

-- the sum of a function over a range
unfoldable pub total : (ℕ → ℕ) → ℕ → ℕ → ℕ
total f start zero = 0
total f start (suc n) = f start + total f (start + 1) n

total_le : (f g : ℕ → ℕ) (start n : ℕ) → ((r : ℕ) → start ≤ r → r < start + n → f r ≤ g r) → total f start n ≤ total g start n
unfolding total
total_le f g start zero each = omega arith
total_le f g start (suc n) each =
    omega (arith, each start (omega arith) (omega arith), total_le f g (start + 1) n (λ r low high. each r (omega arith) (omega arith)))

pub total_add : (f g : ℕ → ℕ) (start n : ℕ) → total (λ r. f r + g r) start n ≡ total f start n + total g start n
unfolding total
total_add f g start zero = refl
total_add f g start (suc n) = let rest = total_add f g (start + 1) n in omega (arith, rest)

-- a number is not counted in a range above it
total_past : (x start n : ℕ) → x < start → total (λ r. one_if (eqb x r)) start n ≡ 0
unfolding total
total_past x start zero less = refl
total_past x start (suc n) less = grind (arith, nat_tests, total_past x (start + 1) n (omega arith))

-- a number is counted at most once, and once in a range that has it
pub total_one : (x start n : ℕ) → (total (λ r. one_if (eqb x r)) start n ≤ 1) × (start ≤ x → x < start + n → total (λ r. one_if (eqb x r)) start n ≡ 1)
unfolding total
total_one x start zero = (omega arith, λ low high. absurd (omega arith))
total_one x start (suc n) = grind (arith, nat_tests, total_past x (start + 1) n, total_one x (start + 1) n)

-- one more at a number where the other function gives more
pub one_more : (f g : ℕ → ℕ) (at r : ℕ) → f at < g at → f r ≤ g r → one_if (eqb at r) + f r ≤ g r
one_more f g at r strict most = grind (arith, nat_tests)

-- the greater sum, if one number has more there
pub total_lt : (f g : ℕ → ℕ) (start n at : ℕ) → start ≤ at → at < start + n → ((r : ℕ) → start ≤ r → r < start + n → f r ≤ g r) → f at < g at →
    total f start n < total g start n
total_lt f g start n at low high each strict =
    let once = (total_one at start n).1 low high in
    let more = total_le (λ r. one_if (eqb at r) + f r) g start n (λ r from below. one_more f g at r strict (each r from below)) in
    omega (arith, once, total_add (λ r. one_if (eqb at r)) f start n, more)

-- numbers that are ranks
abbrev pub AreRanks : List ℕ → Type 0
AreRanks xs = (rank : ℕ) → has xs rank ≡ true → IsRank rank

-- a number is a rank, or a list of ranks does not have it
pub some_or_none : (rank : ℕ) (listed : List ℕ) → AreRanks listed → IsRank rank ⊎ (ranks_of listed rank ≡ 0)
some_or_none rank listed are =
    elim (cases_lt 0 (ranks_of listed rank)) [
      | inl some ↦
          let found = found_by (λ r. eqb r rank) listed (omega (arith, some)) in
          inl (rw (eqb-true found.card rank found.passes) at (are found.card found.held))
      | inr none ↦ inr (omega arith)
    ]

-- the ranks of cards are ranks
pub ranks_are : (cards : List ℕ) → AreCards cards → AreRanks (map rank_of cards)
ranks_are [] are rank h = absurd (both_ways false refl h)
ranks_are (card ∷ cards) are rank h =
    each_member (λ r. IsRank r) (rank_of card) (map rank_of cards) (rank_is card (are card (has_here card cards)))
    (ranks_are cards (λ other k. are other (has_there card other cards k))) rank h

total_none : total (λ r. 0) 1 13 ≡ 0
unfolding total
total_none = refl

-- the counts of the thirteen ranks are at most as many as the numbers of a list, and as many if all are ranks
pub total_list : (xs : List ℕ) → (total (ranks_of xs) 1 13 ≤ length xs) × (AreRanks xs → total (ranks_of xs) 1 13 ≡ length xs)
total_list [] = let none : total (ranks_of []) 1 13 ≡ 0 = total_none in (omega (arith, none), λ are. none)
total_list (x ∷ xs) =
    let more : total (ranks_of (x ∷ xs)) 1 13 ≡ total (λ r. one_if (eqb x r)) 1 13 + total (ranks_of xs) 1 13 =
    (λ i. total (λ r. count_cons (λ other. eqb other r) x xs i) 1 13) ∙ total_add (λ r. one_if (eqb x r)) (ranks_of xs) 1 13 in
    let one = total_one x 1 13 in
    let rest = total_list xs in (
      omega (arith, more, one.0, rest.0),
      λ are.
          let is = are x (has_here x xs) in
          omega (arith, more, one.1 is.0 (omega (arith, is.1)), rest.1 (λ r h. are r (has_there x r xs h))),
    )

-- the same for the ranks of cards
pub total_cards : (cards : List ℕ) → (total (λ r. count_rank r cards) 1 13 ≤ length cards) ×
    (AreCards cards → total (λ r. count_rank r cards) 1 13 ≡ length cards)
total_cards cards =
    let same : total (ranks_of (map rank_of cards)) 1 13 ≡ total (λ r. count_rank r cards) 1 13 = (λ i. total (λ r. count_map rank_of r cards i) 1 13) in
    let listed = total_list (map rank_of cards) in
    let len = length-map cards rank_of in
    (omega (arith, same, listed.0, len), λ are. let all = listed.1 (ranks_are cards are) in omega (arith, same, all, len))

-- if a list of ranks has no more of any rank than ranks and cards together, and less of one, it is shorter
pub more_all : (seen played cards : List ℕ) (at : ℕ) → AreRanks seen → IsRank at →
    ((rank : ℕ) → IsRank rank → ranks_of seen rank ≤ ranks_of played rank + count_rank rank cards) →
    ranks_of seen at < ranks_of played at + count_rank at cards → length seen < length played + length cards
more_all seen played cards at are is each strict =
    let more = total_lt (ranks_of seen) (λ r. ranks_of played r + count_rank r cards) 1 13 at is.0 (omega (arith, is.1))
    (λ r low high. each r (low, omega (arith, high))) strict in
    let sum = total_add (ranks_of played) (λ r. count_rank r cards) 1 13 in
    omega (arith, more, sum, (total_list seen).1 are, (total_list played).0, (total_cards cards).0)
