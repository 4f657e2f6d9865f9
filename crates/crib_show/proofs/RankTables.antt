-- Every list of five ranks, each in rising order only.
use Rattle.std.proofs.Common.{◌≡◌, ℕ, zero, suc, ◌+◌, ◌-◌, ◌<◌, ◌≤◌, eqb, not, ◌&&◌, ◌||◌, Bool, true, List, [], ◌∷◌, length, sum, refl, sym, ap, ◌∙◌, inl}
use Rattle.std.proofs.Common.{inr, subst, arith, ◌*◌, ◌++◌, cond, max, min, fold, sum_by, zero-add, ne_eqb, length-append}
use Rattle.std.proofs.lemmas.List.{append-nil, append_assoc}
use Rattle.std.specs.List.{list_all, list_any, range_with_len, AllByRecursion}
use Rattle.std.proofs.lemmas.Bool.{cases_eq, cases_lt, and_parts, cond-true, cond-false, eq-eqb}
use Rattle.std.proofs.lemmas.Bool.Decides.{nat_tests}
use Rattle.crib_cards.specs.Cards.{IsRank, jack}
use Rattle.crib_cards.specs.Runs.{greatest_rank, least_rank}
use Rattle.crib_cards.specs.Sets.{are_distinct, has, rank_counts}
use Rattle.crib_cards.proofs.EachRank.{each_rank}
use Rattle.crib_cards.proofs.Members.{distinct_apart, distinct_left}
use Rattle.crib_cards.proofs.SetFacts.{has-append}
use Rattle.crib_show.proofs.ReorderedLists.{Reordered, nothing, behind, front, both, same_order, length-reordered, rank_counts-reordered}
use Rattle.std.specs.Prelude.{nat_le, nat_lt}
use Rattle.crib_show.specs.Private.Counts.{IsCounted, pairs_in, runs_after, runs_in, stretch_points}
use Rattle.crib_show.specs.Laws.{is_possible}
use Rattle.crib_show.specs.Show.{choices, fifteen_points, is_prolonged, pair_points, run_points}
use Rattle.crib_show.proofs.Choices.{sum_by-choices}
use Rattle.crib_show.proofs.FifteenLemmas.{fifteens_among, fifteens_among-points}
use Rattle.crib_show.proofs.PairCounts.{pair_count-five, same}
use Rattle.crib_show.proofs.RankLaw.{pair_points-reordered, run_points-reordered}

-- ranks in rising order, from some rank on
abbrev pub Rises : ℕ → List ℕ → Type 0
Rises low [] = Unit {0}
Rises low (rank ∷ ranks) = (low ≤ rank) × (rank ≤ 13) × Rises rank ranks

pub inserted : (rank low : ℕ) (ranks : List ℕ) → low ≤ rank → rank ≤ 13 → Rises low ranks → (sorted : List ℕ) × Reordered (rank ∷ ranks) sorted ×
    Rises low sorted
inserted rank low [] least most rises = (rank ∷ [], same_order (rank ∷ []), (least, most, tt))
inserted rank low (next ∷ ranks) least most rises =
    elim (cases_lt rank next) [
      | inl below ↦ (rank ∷ next ∷ ranks, same_order (rank ∷ next ∷ ranks), (least, most, (omega arith, rises.1, rises.2)))
      | inr above ↦
          let more = inserted rank next ranks above most rises.2 in (
            next ∷ more.0,
            both (rank ∷ next ∷ ranks) (next ∷ rank ∷ ranks) (next ∷ more.0) (front rank next ranks) (behind next (rank ∷ ranks) more.0 more.1),
            (rises.0, rises.1, more.2),
          )
    ]

pub sorted_of : (ranks : List ℕ) → AllByRecursion IsRank ranks → (sorted : List ℕ) × Reordered ranks sorted × Rises 1 sorted
sorted_of [] are = ([], nothing, tt)
sorted_of (rank ∷ ranks) are =
    let rest = sorted_of ranks are.1 in
    let all = inserted rank 1 rest.0 are.0.0 are.0.1 rest.2 in
    (all.0, both (rank ∷ ranks) (rank ∷ rest.0) all.0 (behind rank ranks rest.0 rest.1) all.1, all.2)

-- whether all lists of some length pass a test, where the ranks rise from some rank on
abbrev pub each_rising : ℕ → ℕ → (List ℕ → Bool) → Bool
each_rising zero low test = test []
each_rising (suc n) low test = list_all (λ rank. each_rising n rank (λ ranks. test (rank ∷ ranks))) (range_with_len low (14 - low))

list_all-range : (p : ℕ → Bool) (start n k : ℕ) → list_all p (range_with_len start n) ≡ true → start ≤ k → k < start + n → p k ≡ true
list_all-range p start zero k all low high = absurd (omega arith)
list_all-range p start (suc n) k all low high =
    grind (arith, nat_tests, list_all-range p (start + 1) n k)

pub each_rising-at : (n low : ℕ) (test : List ℕ → Bool) (ranks : List ℕ) → each_rising n low test ≡ true → Rises low ranks → length ranks ≡ n →
    test ranks ≡ true
each_rising-at zero low test [] all rises is = all
each_rising-at zero low test (rank ∷ ranks) all rises is = absurd (omega arith)
each_rising-at (suc n) low test [] all rises is = absurd (omega arith)
each_rising-at (suc n) low test (rank ∷ ranks) all rises is =
    each_rising-at n rank (λ more. test (rank ∷ more)) ranks
    (list_all-range (λ first. each_rising n first (λ more. test (first ∷ more))) low (14 - low) rank all rises.0 (omega arith))
    rises.2 (omega arith)

-- the points of five ranks are those of how many there are of each rank
abbrev pub agree_in : ℕ → ℕ → ℕ → ℕ → ℕ → Bool
agree_in pairs pairs_counted runs runs_counted number =
    eqb pairs pairs_counted && (eqb runs runs_counted && (nat_le pairs_counted 20 && (nat_le runs_counted 12 && eqb number 5)))

abbrev pub agree : List ℕ → List ℕ → Bool
agree ranks counts = agree_in (pair_points ranks) (pairs_in counts) (run_points ranks) (runs_in counts) (sum counts)

-- the points of five ranks, from the numbers of cards of each rank where these decide them
abbrev pub counted_points : ℕ → List ℕ → ℕ
counted_points fifteens counts = fifteens + pairs_in counts + runs_in counts

abbrev pub has_jack : List ℕ → Bool
has_jack ranks = list_any (λ rank. eqb rank jack) ranks

-- whether points are possible alone, and with what a flush and a jack add
abbrev pub allows : ℕ → Bool → ℕ → Bool
allows pairs with_jack points =
    eqb pairs 20
    || (is_possible points
    && ((not with_jack || is_possible (points + 1))
    && ((nat_lt 2 pairs || is_possible (points + 4)) && (nat_lt 0 pairs || (is_possible (points + 5) && is_possible (points + 6))))))

abbrev pub allows_counts : ℕ → Bool → List ℕ → Bool
allows_counts fifteens with_jack counts = allows (pairs_in counts) with_jack (counted_points fifteens counts)

abbrev pub is_allowed : List ℕ → Bool
is_allowed ranks = allows_counts (fifteen_points ranks) (has_jack ranks) (rank_counts ranks)

-- the points of a choice of ranks, with its greatest and least rank. What fails most often is tried first
abbrev run_worth : List ℕ → List ℕ → ℕ → ℕ → ℕ
run_worth all chosen greatest least =
    cond (nat_le 3 (length chosen)) (cond (eqb (greatest - least) (length chosen - 1)) (cond (are_distinct chosen)
    (cond (list_any (λ rank. eqb (rank + 1) least || eqb rank (greatest + 1)) all) 0 (length chosen)) 0) 0) 0

-- the points of runs that begin with some chosen ranks, without a list of choices
abbrev runs_among : List ℕ → List ℕ → List ℕ → ℕ → ℕ → ℕ
runs_among [] all chosen greatest least = run_worth all chosen greatest least
runs_among (rank ∷ ranks) all chosen greatest least =
    runs_among ranks all (chosen ++ rank ∷ []) (max greatest rank) (min least rank) + runs_among ranks all chosen greatest least

abbrev worth_after : List ℕ → List ℕ → ℕ → ℕ → List ℕ → ℕ
worth_after all chosen greatest least more = run_worth all (chosen ++ more) (fold max greatest more) (fold min least more)

runs_among-choices : (ranks all chosen : List ℕ) (greatest least : ℕ) →
    sum_by (worth_after all chosen greatest least) (choices ranks) ≡ runs_among ranks all chosen greatest least
runs_among-choices [] all chosen greatest least =
    zero-add (run_worth all (chosen ++ []) greatest least) ∙ ap (λ c. run_worth all c greatest least) (append-nil chosen)
runs_among-choices (rank ∷ ranks) all chosen greatest least =
    sum_by-choices (worth_after all chosen greatest least) rank ranks
    ∙ (λ i. sum_by (λ more. run_worth all (sym (append_assoc chosen (rank ∷ []) more) i) (fold max (max greatest rank) more)
    (fold min (min least rank) more)) (choices ranks) + runs_among-choices ranks all chosen greatest least i)
    ∙ ap (λ n. n + runs_among ranks all chosen greatest least)
    (runs_among-choices ranks all (chosen ++ rank ∷ []) (max greatest rank) (min least rank))

tried_in_turn : (many distinct near prolonged : Bool) (n : ℕ) →
    cond (((many && distinct) && near) && not prolonged) n 0 ≡ cond many (cond near (cond distinct (cond prolonged 0 n) 0) 0) 0
tried_in_turn many distinct near prolonged n = grind (arith, nat_tests)

runs_among-points : (ranks : List ℕ) → run_points ranks ≡ runs_among ranks ranks [] 0 13
runs_among-points ranks =
    (λ i. sum_by (λ chosen. tried_in_turn (nat_le 3 (length chosen)) (are_distinct chosen)
    (eqb (greatest_rank chosen - least_rank chosen) (length chosen - 1)) (is_prolonged ranks chosen) (length chosen) i) (choices ranks))
    ∙ runs_among-choices ranks ranks [] 0 13

-- ranks that rise from one on rise from a lower one on
rises_lower : (low lower : ℕ) (ranks : List ℕ) → lower ≤ low → Rises low ranks → Rises lower ranks
rises_lower low lower [] below rises = tt
rises_lower low lower (rank ∷ ranks) below rises = (omega (arith, rises.0), rises.1, rises.2)

none_worth : (long greatest least : ℕ) (distinct prolonged : Bool) → (distinct ≡ true → least + long ≤ greatest) →
    cond (nat_le 3 long) (cond (eqb (greatest - least) (long - 1)) (cond distinct (cond prolonged 0 long) 0) 0) 0 ≡ 0
none_worth long greatest least distinct prolonged wide = grind (arith, nat_tests)

has_back : (chosen : List ℕ) (rank : ℕ) → has (chosen ++ rank ∷ []) rank ≡ true
has_back chosen rank = grind (arith, nat_tests, has-append chosen (rank ∷ []) rank)

-- a rank that is no less than the greatest of some ranks is greater, where they are different
greater : (chosen : List ℕ) (greatest rank : ℕ) → has chosen greatest ≡ true → greatest ≤ rank → are_distinct (chosen ++ rank ∷ []) ≡ true → greatest < rank
greater chosen greatest rank at most distinct = grind (arith, nat_tests, distinct_apart chosen (rank ∷ []) greatest distinct at)

-- chosen ranks with a gap, or with a rank twice, are in no run, with any ranks after them
none_among : (ranks all chosen : List ℕ) (greatest least : ℕ) → Rises greatest ranks → has chosen greatest ≡ true →
    (are_distinct chosen ≡ true → least + length chosen ≤ greatest) → runs_among ranks all chosen greatest least ≡ 0
none_among [] all chosen greatest least rises at wide =
    none_worth (length chosen) greatest least (are_distinct chosen) (list_any (λ rank. eqb (rank + 1) least || eqb rank (greatest + 1)) all) wide
none_among (rank ∷ ranks) all chosen greatest least rises at wide =
    let up : max greatest rank ≡ rank = omega (arith, rises.0) in
    let behind : runs_among ranks all (chosen ++ rank ∷ []) rank (min least rank) ≡ 0 =
    none_among ranks all (chosen ++ rank ∷ []) rank (min least rank) rises.2 (has_back chosen rank) (λ distinct.
    omega (arith, length-append chosen (rank ∷ []), greater chosen greatest rank at rises.0 distinct, wide (distinct_left chosen (rank ∷ []) distinct))) in
    λ i. ((λ j. runs_among ranks all (chosen ++ rank ∷ []) (up j) (min least rank)) ∙ behind) i
    + none_among ranks all chosen greatest least (rises_lower rank greatest ranks rises.0 rises.2) at wide i

-- the points of runs that begin with some ranks in a row, in rising ranks: only the next rank can follow
abbrev runs_behind : List ℕ → List ℕ → List ℕ → ℕ → ℕ → ℕ
runs_behind [] all chosen greatest least = run_worth all chosen greatest least
runs_behind (rank ∷ ranks) all chosen greatest least =
    cond (eqb rank (greatest + 1)) (runs_behind ranks all (chosen ++ rank ∷ []) rank least) 0 + runs_behind ranks all chosen greatest least

runs_behind-among : (ranks all chosen : List ℕ) (greatest least : ℕ) → Rises greatest ranks → has chosen greatest ≡ true → least ≤ greatest →
    greatest + 1 ≡ least + length chosen → runs_among ranks all chosen greatest least ≡ runs_behind ranks all chosen greatest least
runs_behind-among [] all chosen greatest least rises at low row = refl
runs_behind-among (rank ∷ ranks) all chosen greatest least rises at low row =
    let more : List ℕ = chosen ++ rank ∷ [] in
    let long = length-append chosen (rank ∷ []) in
    let up : max greatest rank ≡ rank = omega (arith, rises.0) in
    let down : min least rank ≡ least = omega (arith, rises.0) in
    let first : runs_among ranks all more rank least ≡ cond (eqb rank (greatest + 1)) (runs_behind ranks all more rank least) 0 =
    elim (cases_eq rank (greatest + 1)) [
      | inl next ↦ runs_behind-among ranks all more rank least rises.2 (has_back chosen rank) (omega arith) (omega (arith, long))
          ∙ sym (cond-true _ (runs_behind ranks all more rank least) 0 (eq-eqb rank (greatest + 1) next))
      | inr other ↦ none_among ranks all more rank least rises.2 (has_back chosen rank)
          (λ distinct. omega (arith, long, greater chosen greatest rank at rises.0 distinct))
          ∙ sym (cond-false _ (runs_behind ranks all more rank least) 0 (ne_eqb rank (greatest + 1) other))
    ] in
    λ i. ((λ j. runs_among ranks all more (up j) (down j)) ∙ first) i
    + runs_behind-among ranks all chosen greatest least (rises_lower rank greatest ranks rises.0 rises.2) at low row i

abbrev runs_rising : List ℕ → List ℕ → ℕ
runs_rising [] all = 0
runs_rising (rank ∷ ranks) all = runs_behind ranks all (rank ∷ []) rank rank + runs_rising ranks all

runs_rising-among : (low : ℕ) (ranks all : List ℕ) → Rises low ranks → runs_among ranks all [] 0 13 ≡ runs_rising ranks all
runs_rising-among low [] all rises = refl
runs_rising-among low (rank ∷ ranks) all rises =
    let up : max 0 rank ≡ rank = omega arith in
    let down : min 13 rank ≡ rank = omega (arith, rises.1) in
    λ i. ((λ j. runs_among ranks all (rank ∷ []) (up j) (down j))
    ∙ runs_behind-among ranks all (rank ∷ []) rank rank rises.2 (has_back [] rank) (omega arith) (omega arith)) i
    + runs_rising-among rank ranks all rises.2 i

-- the points of the runs in some counts, where each count is taken apart and not compared with 0
abbrev runs_by : ℕ → ℕ → List ℕ → ℕ
runs_by long forms [] = stretch_points long forms
runs_by long forms (zero ∷ counts) = stretch_points long forms + runs_by 0 1 counts
runs_by long forms (suc n ∷ counts) = runs_by (long + 1) (forms * suc n) counts

runs_by-after : (long forms : ℕ) (counts : List ℕ) → runs_after long forms counts ≡ runs_by long forms counts
runs_by-after long forms [] = refl
runs_by-after long forms (zero ∷ counts) = ap (λ n. stretch_points long forms + n) (runs_by-after 0 1 counts)
runs_by-after long forms (suc n ∷ counts) =
    cond-false _ (stretch_points long forms + runs_after 0 1 counts) (runs_after (long + 1) (forms * suc n) counts) (ne_eqb (suc n) 0 (λ e. omega (arith, e)))
    ∙ runs_by-after (long + 1) (forms * suc n) counts

-- the pairs of five ranks, without a list of choices
abbrev pairs_among : List ℕ → ℕ
pairs_among (v ∷ w ∷ x ∷ y ∷ z ∷ []) =
    same v w + same v x + same v y + same v z + (same w x + same w y + same w z) + (same x y + same x z + same y z)
pairs_among ranks = 0

-- both are tried of all ranks at once, with the numbers of cards of each rank computed once
abbrev is_good_with : List ℕ → List ℕ → Bool
is_good_with ranks counts =
    agree_in (2 * pairs_among ranks) (pairs_in counts) (runs_rising ranks ranks) (runs_by 0 1 counts) (sum counts)
    && allows (pairs_in counts) (has_jack ranks) (2 * fifteens_among ranks 0 + pairs_in counts + runs_by 0 1 counts)

abbrev is_good : List ℕ → Bool
is_good ranks = is_good_with ranks (rank_counts ranks)

abbrev GoodFrom : ℕ → Type 0
GoodFrom rank = each_rising 4 rank (λ ranks. is_good (rank ∷ ranks)) ≡ true

from_1 : GoodFrom 1
from_1 = refl

from_2 : GoodFrom 2
from_2 = refl

from_each : (rank : ℕ) → IsRank rank → GoodFrom rank
from_each rank is = each_rank GoodFrom from_1 from_2 refl refl refl refl refl refl refl refl refl refl refl rank is

agreed : (pairs pairs_counted runs runs_counted number : ℕ) → agree_in pairs pairs_counted runs runs_counted number ≡ true →
    (pairs ≡ pairs_counted) × (runs ≡ runs_counted) × (pairs_counted ≤ 20) × (runs_counted ≤ 12) × (number ≡ 5)
agreed pairs pairs_counted runs runs_counted number all = grind (arith, nat_tests)

IsCounted-agree : (ranks counts : List ℕ) → agree ranks counts ≡ true → IsCounted ranks counts
IsCounted-agree ranks counts all =
    let tests = agreed _ _ _ _ _ all in record { pairs = tests.0; runs = tests.1; few_pairs = tests.2; few_runs = tests.3; number = tests.4 }

pub good_rising : (ranks : List ℕ) → Rises 1 ranks → length ranks ≡ 5 → (agree ranks (rank_counts ranks) ≡ true) × (is_allowed ranks ≡ true)
good_rising (v ∷ w ∷ x ∷ y ∷ z ∷ []) rises five =
    let all : List ℕ = v ∷ w ∷ x ∷ y ∷ z ∷ [] in
    let counts : List ℕ = rank_counts all in
    and_parts _ _ (
    (λ i. agree_in (2 * pair_count-five v w x y z i) (pairs_in counts) ((runs_among-points all ∙ runs_rising-among 1 all all rises) i)
    (runs_by-after 0 1 counts i) (sum counts)
    && allows (pairs_in counts) (has_jack all) (fifteens_among-points all i + pairs_in counts + runs_by-after 0 1 counts i))
    ∙ each_rising-at 4 v (λ more. is_good (v ∷ more)) (w ∷ x ∷ y ∷ z ∷ []) (from_each v (rises.0, rises.1)) rises.2 refl
    )
good_rising ranks rises five = absurd (omega arith)

pub IsCounted-ranks : (ranks : List ℕ) → AllByRecursion IsRank ranks → length ranks ≡ 5 → IsCounted ranks (rank_counts ranks)
IsCounted-ranks ranks are five =
    let sorted = sorted_of ranks are in
    let counted : IsCounted sorted.0 (rank_counts sorted.0) =
    IsCounted-agree sorted.0 (rank_counts sorted.0) (good_rising sorted.0 sorted.2 (sym (length-reordered ranks sorted.0 sorted.1) ∙ five)).0 in
    let counts : rank_counts ranks ≡ rank_counts sorted.0 = rank_counts-reordered ranks sorted.0 sorted.1 in record {
      pairs = pair_points-reordered ranks sorted.0 sorted.1 ∙ counted.pairs ∙ sym (ap pairs_in counts);
      runs = run_points-reordered ranks sorted.0 sorted.1 ∙ counted.runs ∙ sym (ap runs_in counts);
      few_pairs = subst (λ c. pairs_in c ≤ 20) (sym counts) counted.few_pairs;
      few_runs = subst (λ c. runs_in c ≤ 12) (sym counts) counted.few_runs;
      number = ap sum counts ∙ counted.number;
    }
