-- Four ranks as a number.
use Rattle.std.proofs.Common.{◌≡◌, ℕ, zero, suc, ◌+◌, ◌-◌, ◌*◌, ◌/◌, ◌<◌, ◌≤◌, true, false, cond, List, [], ◌∷◌, length, map, add-one}
use Rattle.std.proofs.Common.{refl, ap, subst, ◌∙◌, arith}
use Rattle.std.proofs.lemmas.Bool.Decides.{nat_tests}
use Rattle.std.specs.List.{AllByRecursion}
use Rattle.crib_cards.specs.Cards.{IsCard, IsRank, rank_of}
use Rattle.crib_cards.specs.Sets.{rank_counts}
use Rattle.crib_cards.specs.Order.{are_rising, is_before}
use Rattle.crib_cards.specs.declared.sides.Dealt.{Dealt}
use Rattle.crib_cards.proofs.Members.{AreCards, all_cards}
use Rattle.crib_deals.specs.Deals.{ranks_held}
use Rattle.crib_deals.proofs.NumberedDeals.{AreNumbered}
use Rattle.crib_deals.specs.Choices.{ranks_of_number, are_in_order}
use Rattle.crib_show.specs.Indices.{AreFour}
use Rattle.crib_beaten.specs.Private.Rows.{IsChoice, IsNoChoice, place}
use Rattle.crib_show.proofs.IndexLemmas.{four_counted}

abbrev number_from : ℕ → List ℕ → ℕ
number_from front [] = front
number_from front (rank ∷ ranks) = number_from (13 * front + (rank - 1)) ranks

-- the number of some ranks, with a digit in base 13 for each
abbrev pub ranks_number : List ℕ → ℕ
ranks_number ranks = number_from 0 ranks

pub ranks_back : (n : ℕ) → n < 28561 → ranks_number (ranks_of_number n) ≡ n
ranks_back n less = omega (arith, less)

-- four ranks of cards are those of their number, which is small
abbrev pub HasNumber : List ℕ → Type 0
HasNumber ranks = (ranks ≡ ranks_of_number (ranks_number ranks)) × (ranks_number ranks < 28561)

pub numbered : (hold : List ℕ) → length hold ≡ 4 → AreCards hold → HasNumber (map rank_of hold)
numbered (w ∷ x ∷ y ∷ z ∷ []) four cards =
    let is = all_cards (w ∷ x ∷ y ∷ z ∷ []) cards in
    digits (w / 4) (x / 4) (y / 4) (z / 4) (rank w (is 0 0 (omega arith))) (rank x (is 1 0 (omega arith))) (rank y (is 2 0 (omega arith)))
    (rank z (is 3 0 (omega arith)))
  where
    rank : (card : ℕ) → IsCard card → card / 4 < 13
    rank card is = omega (arith, is)

    digits : (a b c d : ℕ) → a < 13 → b < 13 → c < 13 → d < 13 → HasNumber ((a + 1) ∷ (b + 1) ∷ (c + 1) ∷ (d + 1) ∷ [])
    digits a b c d la lb lc ld = grind (arith, la, lb, lc, ld)
numbered hold four cards = absurd (omega (arith, four))

pub ranks_numbered : (Has : Dealt → Type 0) → ((dealt : Dealt) → Has dealt → (length dealt.hold ≡ 4) × AreCards dealt.hold) →
    AreNumbered Has ranks_held ranks_number ranks_of_number 28561
ranks_numbered Has held = record {
  few = λ dealt has. let is = held dealt has in (numbered dealt.hold is.0 is.1).1;
  are = λ dealt has. let is = held dealt has in (numbered dealt.hold is.0 is.1).0;
  back = ranks_back;
}

-- rising cards have their ranks in order
pub rising_ranks : (cards : List ℕ) → are_rising cards ≡ true → are_in_order (map rank_of cards) ≡ true
rising_ranks [] rising = refl
rising_ranks (card ∷ []) rising = refl
rising_ranks (card ∷ next ∷ cards) rising = let below = rising_ranks (next ∷ cards) in grind (arith, nat_tests, rising, below)

-- a smaller number has ranks that come before
pub number_before : (m n : ℕ) → m < n → is_before (ranks_of_number m) (ranks_of_number n) ≡ true
number_before m n less = grind (arith, nat_tests, less)

-- the ranks with a number are four ranks
pub four_numbered : (number : ℕ) → number < 28561 → AreFour (rank_counts (ranks_of_number number))
four_numbered number less =
    let all : AllByRecursion IsRank (ranks_of_number number) =
    ((omega arith, omega (arith, less)), ((omega arith, omega arith), ((omega arith, omega arith), ((omega arith, omega arith), tt)))) in
    four_counted (ranks_of_number number) all refl

-- ---- the places of choices
place_next : (number : ℕ) → place (number + 1) ≡ cond (are_in_order (ranks_of_number number)) 1 0 + place number
unfolding place
place_next number = ap place (add-one number)

place_after : (number : ℕ) → are_in_order (ranks_of_number number) ≡ true → place (number + 1) ≡ place number + 1
place_after number order = omega (arith, place_next number, ap {B = ℕ} (λ b. cond b 1 0) order)

place_up : (number more : ℕ) → place number ≤ place (more + number)
place_up number zero = grind arith
place_up number (suc more) = grind (arith, place_up number more, place_next (more + number))

place_of_all : place 28561 ≡ 1820
unfolding place
place_of_all = refl

pub place_few : (number : ℕ) → number ≤ 28561 → place number ≤ 1820
place_few number few =
    let whole : 28561 - number + number ≡ 28561 = omega (arith, few) in
    subst (λ (n : ℕ). place number ≤ n) (ap place whole ∙ place_of_all) (place_up number (28561 - number))

-- a choice in order comes before those of larger numbers
pub place_before : (number later : ℕ) → number < later → are_in_order (ranks_of_number number) ≡ true → place number < place later
place_before number later less order =
    let whole : later - (number + 1) + (number + 1) ≡ later = omega (arith, less) in
    subst (λ (n : ℕ). place number < place n) whole (omega (arith, place_after number order, place_up (number + 1) (later - (number + 1))))

pub is_choice : {number : ℕ} {ranks : List ℕ} → ranks ≡ ranks_of_number number → number < 28561 → are_in_order ranks ≡ true → IsChoice number ranks
is_choice {number} is small in_order =
    let order = rw is at in_order in record {
      numbered = is;
      order = order;
      small = omega (arith, place_before number 28561 small order, place_few 28561 (omega arith));
      next = place_after number order;
    }

pub is_no_choice : {number : ℕ} {ranks : List ℕ} → ranks ≡ ranks_of_number number → are_in_order ranks ≡ false → IsNoChoice number
is_no_choice {number} is none = let no_order = rw is at none in record {
  no_order = no_order;
  next = omega (arith, place_next number, ap {B = ℕ} (λ b. cond b 1 0) no_order);
}
