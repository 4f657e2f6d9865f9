-- Rising lists, and their dictionary order.
use Rattle.std.proofs.Common.{◌||◌}
use Rattle.std.proofs.lemmas.Bool.Decides.{nat_tests}
use Rattle.std.proofs.Common.{◌≡◌, ℕ, zero, suc, ◌+◌, ◌<◌, ◌≤◌, Bool, true, false, cond, ◌&&◌, eqb, ltb, List, [], ◌∷◌, ◌++◌, length, take}
use Rattle.std.proofs.Common.{refl, sym, ap, ◌∙◌, inl, inr, arith}
use Rattle.std.specs.List.{filter, range_with_len}
use Rattle.std.proofs.lemmas.Bool.{and_parts, and_from, or_parts}
use Rattle.std.proofs.lemmas.Bool.{both_ways, eq-eqb}
use Rattle.crib_cards.specs.Sets.{has, IsCardSet, set_where}
use Rattle.crib_cards.specs.Order.{is_before, are_rising}
use Rattle.crib_know.proofs.CardsLeft.{has-filter_parts}
use Rattle.crib_know.proofs.CardLists.{has_range_parts}
use Rattle.crib_cards.proofs.SetFacts.{rising_rest, rising_above}
use Rattle.crib_cards.proofs.Members.{has_here, has_cases}

-- two fronts of one length, and what comes after them
pub before_append : (xs ys us vs : List ℕ) → length xs ≡ length ys → is_before xs ys ≡ false → (xs ≡ ys → is_before us vs ≡ false) →
    is_before (xs ++ us) (ys ++ vs) ≡ false
before_append [] [] us vs len e rest = rest refl
before_append [] (y ∷ ys) us vs len e rest = absurd (omega arith)
before_append (x ∷ xs) [] us vs len e rest = absurd (omega arith)
before_append (x ∷ xs) (y ∷ ys) us vs len e rest =
    later (is_before xs ys) (is_before (xs ++ us) (ys ++ vs)) e (λ is f. before_append xs ys us vs (omega arith) f (λ g. rest (λ i. is i ∷ g i)))
  where
    later : (a b : Bool) → (ltb x y || (eqb x y && a)) ≡ false → (x ≡ y → a ≡ false → b ≡ false) → (ltb x y || (eqb x y && b)) ≡ false
    later a b e rest = grind (arith, nat_tests)

-- ---- the first difference of two sets
-- the lowest card that one test passes and another doesn't, where they agree on all cards below it
pub record Differs (p q : ℕ → Bool) (start : ℕ) : Type 0 where
  pub card : ℕ
  pub high : start ≤ card
  pub here : p card ≡ true
  pub lacks : q card ≡ false
  pub below : (other : ℕ) → start ≤ other → other < card → p other ≡ q other

-- a list of higher numbers does not come before one with a lower first number
not_earlier : (xs : List ℕ) (y : ℕ) (ys : List ℕ) → ((x : ℕ) → has xs x ≡ true → y < x) → 1 ≤ length xs → is_before xs (y ∷ ys) ≡ false
not_earlier [] y ys above some = absurd (omega arith)
not_earlier (x ∷ xs) y ys above some = let less = above x (has_here x xs) in grind (arith, nat_tests)

module _ (p q : ℕ → Bool) where
  later : (start : ℕ) → p start ≡ q start → Differs p q (start + 1) → Differs p q start
  later start same next = grind (arith, nat_tests)

  by_first : (start : ℕ) (xs ys : List ℕ) (a b : Bool) → p start ≡ a → q start ≡ b → ((card : ℕ) → has xs card ≡ true → start < card) →
      (length xs ≡ length ys → is_before xs ys ≡ true → Differs p q (start + 1)) → length (cond a (start ∷ xs) xs) ≡ length (cond b (start ∷ ys) ys) →
      is_before (cond a (start ∷ xs) xs) (cond b (start ∷ ys) ys) ≡ true → Differs p q start
  by_first start xs ys true true yes_p yes_q above next len e =
      later start (yes_p ∙ sym yes_q) (next (omega arith) (rest (is_before xs ys) e))
    where
      rest : (b : Bool) → (ltb start start || (eqb start start && b)) ≡ true → b ≡ true
      rest b e = grind (arith, nat_tests)
  by_first start xs ys true false yes_p no_q above next len e =
      record { card = start; high = omega arith; here = yes_p; lacks = no_q; below = λ other from less. absurd (omega arith) }
  by_first start xs ys false true no_p yes_q above next len e = absurd (both_ways (is_before xs (start ∷ ys)) (not_earlier xs start ys above (omega arith)) e)
  by_first start xs ys false false no_p no_q above next len e = later start (no_p ∙ sym no_q) (next len e)

  differs_from : (start n : ℕ) → length (filter p (range_with_len start n)) ≡ length (filter q (range_with_len start n)) →
      is_before (filter p (range_with_len start n)) (filter q (range_with_len start n)) ≡ true → Differs p q start
  differs_from start zero len e = absurd (both_ways false refl e)
  differs_from start (suc n) len e =
      by_first start (filter p (range_with_len (start + 1) n)) (filter q (range_with_len (start + 1) n)) (p start) (q start) refl refl
      (λ card h. let within = has_range_parts (start + 1) n card (has-filter_parts p (range_with_len (start + 1) n) card h).0 in omega (arith, within.0))
      (differs_from (start + 1) n) len e

-- if a set comes before another of as many cards, there is such a card
pub first_difference : (xs ys : List ℕ) → IsCardSet xs → IsCardSet ys → length xs ≡ length ys → is_before xs ys ≡ true → Differs (has xs) (has ys) 0
unfolding set_where
first_difference xs ys one other len e =
    differs_from (has xs) (has ys) 0 52 (ap length (sym one) ∙ len ∙ ap length other) ((λ i. is_before (sym one i) (sym other i)) ∙ e)

-- ---- rising lists
pub rising_take : (xs : List ℕ) → are_rising xs ≡ true → are_rising (take 2 xs) ≡ true
rising_take [] rising = refl
rising_take (x ∷ []) rising = refl
rising_take (x ∷ y ∷ xs) rising = and_from (ltb x y) true (and_parts (ltb x y) (are_rising (y ∷ xs)) rising).0 refl

-- a number that is not among the first ones of a rising list is above them
pub take_below : (n : ℕ) (xs : List ℕ) (card other : ℕ) → are_rising xs ≡ true → has xs card ≡ true → has (take n xs) card ≡ false →
    has (take n xs) other ≡ true → other < card
take_below zero xs card other rising h out taken = absurd (both_ways false refl taken)
take_below (suc n) [] card other rising h out taken = absurd (both_ways false refl taken)
take_below (suc n) (x ∷ xs) card other rising h out taken =
    let parts = or_parts (eqb x card) (has (take n xs) card) out in
    elim (has_cases x card xs h) [
      | inl here ↦ absurd (both_ways (eqb x card) parts.0 (eq-eqb x card here))
      | inr there ↦
          elim (has_cases x other (take n xs) taken) [
            | inl first ↦ let above = rising_above x xs card rising there in omega (arith, above, first)
            | inr later ↦ take_below n xs card other (rising_rest x xs rising) there parts.1 later
          ]
    ]
