-- Dictionary order of lists of numbers.
use Rattle.std.proofs.Common.{◌≡◌, ℕ, ◌<◌, true, false, ◌&&◌, eqb, ltb, List, [], ◌∷◌, refl, arith}
use Rattle.std.proofs.lemmas.Bool.{or_left, or_right, or_from, and_from, and_right, lt-ltb, le-ltb, eq-eqb}
use Rattle.crib_cards.specs.Order.{is_before}

pub before_first : (x y : ℕ) (xs ys : List ℕ) → x < y → is_before (x ∷ xs) (y ∷ ys) ≡ true
before_first x y xs ys less = or_left (ltb x y) (eqb x y && is_before xs ys) (lt-ltb x y less)

pub before_rest : (x : ℕ) (xs ys : List ℕ) → is_before xs ys ≡ true → is_before (x ∷ xs) (x ∷ ys) ≡ true
before_rest x xs ys before = or_right (ltb x x) (eqb x x && is_before xs ys) (and_from (eqb x x) (is_before xs ys) (eq-eqb x x refl) before)

pub not_before_rest : (x : ℕ) (xs ys : List ℕ) → is_before xs ys ≡ false → is_before (x ∷ xs) (x ∷ ys) ≡ false
not_before_rest x xs ys not_before = or_from (ltb x x) (eqb x x && is_before xs ys) (le-ltb x x (omega arith))
    (and_right (eqb x x) (is_before xs ys) not_before)

pub not_before_self : (xs : List ℕ) → is_before xs xs ≡ false
not_before_self [] = refl
not_before_self (x ∷ xs) = not_before_rest x xs xs (not_before_self xs)
