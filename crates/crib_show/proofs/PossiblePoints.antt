-- The points that five cards can have, from their ranks.
use Rattle.std.proofs.Common.{◌≡◌, ◌≢◌, ℕ, ◌+◌, ◌≤◌, eqb, not, ◌&&◌, ◌||◌, Bool, true, false, List, length, map, sym, ◌∙◌, arith}
use Rattle.std.proofs.lemmas.Bool.{le-ltb}
use Rattle.std.proofs.Common.{ne_eqb}
use Rattle.std.specs.Prelude.{nat_lt}
use Rattle.std.specs.List.{AllByRecursion}
use Rattle.std.proofs.lemmas.Bool.Decides.{nat_tests}
use Rattle.std.proofs.lemmas.List.{length-map}
use Rattle.crib_cards.specs.Cards.{IsRank, jack, rank_of}
use Rattle.crib_show.specs.Laws.{is_possible}
use Rattle.crib_show.specs.Show.{fifteen_points, pair_points, plain_points}
use Rattle.crib_show.proofs.ReorderedLists.{Reordered, length-reordered, list_any-reordered, rank_counts-reordered}
use Rattle.crib_show.proofs.RankLaw.{fifteen_points-reordered}
use Rattle.crib_show.proofs.RankTables.{allows, allows_counts, has_jack, is_allowed, sorted_of, good_rising, IsCounted-ranks}

is_allowed-reordered : (xs ys : List ℕ) → Reordered xs ys → is_allowed xs ≡ is_allowed ys
is_allowed-reordered xs ys r = λ i. allows_counts (fifteen_points-reordered xs ys r i) (list_any-reordered (λ rank. eqb rank jack) xs ys r i)
    (rank_counts-reordered xs ys r i)

pub is_allowed-ranks : (ranks : List ℕ) → AllByRecursion IsRank ranks → length ranks ≡ 5 → is_allowed ranks ≡ true
is_allowed-ranks ranks are five =
    let sorted = sorted_of ranks are in
    is_allowed-reordered ranks sorted.0 sorted.1 ∙ (good_rising sorted.0 sorted.2 (sym (length-reordered ranks sorted.0 sorted.1) ∙ five)).1

-- of five cards
pub record IsAllowed (cards : List ℕ) : Type 0 where
  pub allowed : allows (pair_points (map rank_of cards)) (has_jack (map rank_of cards)) (plain_points cards) ≡ true

pub IsAllowed-cards : (cards : List ℕ) → AllByRecursion IsRank (map rank_of cards) → length cards ≡ 5 → IsAllowed cards
IsAllowed-cards cards are five =
    let ranks = map rank_of cards in
    let long = length-map cards rank_of ∙ five in
    let counted = IsCounted-ranks ranks are long in record {
      allowed =
          (λ i. allows (counted.pairs i) (has_jack ranks) (fifteen_points ranks + counted.pairs i + counted.runs i)) ∙ is_allowed-ranks ranks are long;
    }

-- which points are possible: alone, with a jack, and with flushes of four and of five
pub record IsPossible (pairs points : ℕ) (with_jack : Bool) : Type 0 where
  pub alone : is_possible points ≡ true
  pub jack : with_jack ≡ true → is_possible (points + 1) ≡ true
  pub flush_of_four : pairs ≤ 2 → is_possible (points + 4) ≡ true
  pub flush_of_five : pairs ≡ 0 → is_possible (points + 5) ≡ true
  pub flush_and_jack : pairs ≡ 0 → is_possible (points + 6) ≡ true

parts : (twenty alone jack with_jack many four pair five six : Bool) →
    (twenty || (alone && ((not jack || with_jack) && ((many || four) && (pair || (five && six)))))) ≡ true → twenty ≡ false →
    (alone ≡ true) × (jack ≡ true → with_jack ≡ true) × (many ≡ false → four ≡ true) × (pair ≡ false → five ≡ true) × (pair ≡ false → six ≡ true)
parts twenty alone jack with_jack many four pair five six allowed apart = grind (arith, nat_tests)

pub possible_points : (pairs points : ℕ) (with_jack : Bool) → allows pairs with_jack points ≡ true → pairs ≢ 20 → IsPossible pairs points with_jack
possible_points pairs points with_jack allowed some =
    let tests = parts (eqb pairs 20) (is_possible points) with_jack (is_possible (points + 1)) (nat_lt 2 pairs) (is_possible (points + 4)) (nat_lt 0 pairs)
    (is_possible (points + 5)) (is_possible (points + 6)) allowed (ne_eqb pairs 20 some) in
    record {
      alone = tests.0;
      jack = tests.1;
      flush_of_four = λ few. tests.2 (le-ltb 2 pairs few);
      flush_of_five = λ none. tests.3 (le-ltb 0 pairs (omega arith));
      flush_and_jack = λ none. tests.4 (le-ltb 0 pairs (omega arith));
    }
