-- The indices of ranks: each choice has its own.
use Rattle.std.proofs.Common.{◌≡◌, ℕ, zero, suc, ◌+◌, ◌-◌, ◌<◌, ◌≤◌, List, [], ◌∷◌, length, fold, sum, replicate, refl, sym, ap, ◌∙◌, inl, inr, arith, subst}
use Rattle.std.specs.List.{AllByRecursion}
use Rattle.std.proofs.lemmas.Bool.{cases_order}
use Rattle.std.proofs.lemmas.Bool.{cases_lt}
use Rattle.std.proofs.lemmas.List.{length-append, length-replicate}
use Rattle.crib_show.specs.Private.Extremes.{ranks_from}
use Rattle.crib_cards.specs.Cards.{IsRank}
use Rattle.crib_cards.specs.Sets.{rank_counts}
use Rattle.crib_show.specs.Indices.{AreFour, below, index_among, many}
use Rattle.crib_show.proofs.CountedRanks.{ranks_counted}
use Rattle.crib_show.proofs.ReorderedLists.{length-reordered}

-- ---- the sum of counts

fold_from : (a : ℕ) (xs : List ℕ) → fold ◌+◌ a xs ≡ a + fold ◌+◌ 0 xs
fold_from a [] = omega arith
fold_from a (x ∷ xs) = omega (arith, fold_from (a + x) xs, fold_from (0 + x) xs)

sum_more : (x : ℕ) (xs : List ℕ) → sum (x ∷ xs) ≡ x + sum xs
sum_more x xs = let all : sum (x ∷ xs) ≡ 0 + x + sum xs = fold_from (0 + x) xs in omega (arith, all)

-- the counts of some ranks count them
pub ranks_many : (low : ℕ) (counts : List ℕ) → sum counts ≡ length (ranks_from low counts)
ranks_many low [] = refl
ranks_many low (count ∷ counts) =
    let both = length-append (replicate count low) (ranks_from (low + 1) counts) in
    omega (arith, ranks_many (low + 1) counts, sum_more count counts, both, length-replicate count low)

-- ---- indices

below_up : (f : ℕ → ℕ) (n m : ℕ) → n ≤ m → below f n ≤ below f m
below_up f n zero up = let is : n ≡ 0 = omega (arith, up) in omega (arith, ap (below f) is)
below_up f n (suc m) up =
    elim (cases_lt n (suc m)) [
      | inl less ↦ let step : below f (suc m) ≡ below f m + f m = refl in omega (arith, below_up f n m (omega (arith, less)), step)
      | inr most ↦ let is : n ≡ suc m = omega (arith, up, most) in omega (arith, ap (below f) is)
    ]

below_next : (f : ℕ → ℕ) (n m : ℕ) → n < m → below f n + f n ≤ below f m
below_next f n m up = below_up f (suc n) m (omega (arith, up))

-- the index of some cards is that of one of their choices
index_inside : (cards : ℕ) (counts : List ℕ) → sum counts ≡ cards → index_among cards counts < many (length counts) cards
index_inside cards [] none = subst (λ k. 0 < many 0 k) none (omega arith)
index_inside cards (count ∷ counts) all =
    let rest = index_inside (cards - count) counts (omega (arith, all, sum_more count counts)) in
    omega (arith, rest, below_next (many (length counts)) (cards - count) (suc cards) (omega arith))

-- with more of the first rank the index is less
more_before : (cards one other : ℕ) (ones others : List ℕ) → length ones ≡ length others → sum ones + one ≡ cards → sum others + other ≡ cards →
    other < one → index_among cards (one ∷ ones) < index_among cards (other ∷ others)
more_before cards one other ones others long all every more =
    let up = below_next (many (length ones)) (cards - one) (cards - other) (omega (arith, all, every, more)) in
    omega (arith, index_inside (cards - one) ones (omega (arith, all)), up, ap (λ n. below (many n) (cards - other)) long)

-- one index has one choice
index_of_one : (cards : ℕ) (ones others : List ℕ) → length ones ≡ length others → sum ones ≡ cards → sum others ≡ cards →
    index_among cards ones ≡ index_among cards others → ones ≡ others
index_of_one cards [] [] long all every is = refl
index_of_one cards [] (other ∷ others) long all every is = absurd (omega (arith, long))
index_of_one cards (one ∷ ones) [] long all every is = absurd (omega (arith, long))
index_of_one cards (one ∷ ones) (other ∷ others) long all every is =
    let one_more : sum ones + one ≡ cards = omega (arith, all, sum_more one ones) in
    let other_more : sum others + other ≡ cards = omega (arith, every, sum_more other others) in
    let rest_long : length ones ≡ length others = omega (arith, long) in
    elim (cases_order one other) [
      | inr (inl less) ↦ absurd (omega (arith, more_before cards other one others ones (sym rest_long) other_more one_more less, is))
      | inr (inr more) ↦ absurd (omega (arith, more_before cards one other ones others rest_long one_more other_more more, is))
      | inl same ↦
          let fewer = ap (λ n. below (many n) (cards - one)) rest_long in
          let there = ap (λ k. below (many (length others)) (cards - k) + index_among (cards - k) others) same in
          let rest = index_of_one (cards - one) ones others rest_long (omega (arith, one_more)) (omega (arith, other_more, same))
          (omega (arith, is, fewer, there)) in
          λ i. same i ∷ rest i
    ]

-- ---- four ranks

pub index_few : (counts : List ℕ) → AreFour counts → index_among 4 counts < 1820
index_few counts are =
    let all : many (length counts) 4 ≡ 1820 = ap (λ n. many n 4) are.thirteen in
    omega (arith, index_inside 4 counts are.four, all)

-- two choices of four ranks with one index are the same
pub choice_of_index : (ones others : List ℕ) → AreFour ones → AreFour others → index_among 4 ones ≡ index_among 4 others → ones ≡ others
choice_of_index ones others one other = index_of_one 4 ones others (one.thirteen ∙ sym other.thirteen) one.four other.four

-- the counts of four ranks are a choice
pub four_counted : (ranks : List ℕ) → AllByRecursion IsRank ranks → length ranks ≡ 4 → AreFour (rank_counts ranks)
four_counted ranks are four = record {
  four = ranks_many 1 (rank_counts ranks) ∙ length-reordered (ranks_from 1 (rank_counts ranks)) ranks (ranks_counted ranks are) ∙ four;
  thirteen = refl;
}
