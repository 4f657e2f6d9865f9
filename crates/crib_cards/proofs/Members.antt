-- Lemmas about the members of a list, and about lists with no number twice.
use Rattle.std.proofs.Common.{◌≡◌, ◌⊎◌, ℕ, Bool, true, false, eqb, List, [], ◌∷◌, ◌++◌, refl, inl, inr, arith}
use Rattle.std.specs.List.{All, list_all, list_any}
use Rattle.std.proofs.lemmas.Bool.Decides.{nat_tests}
use Rattle.std.proofs.lemmas.Bool.{and_from, or_cases, or_left, or_right, both_ways, eq-eqb}
use Rattle.std.proofs.lemmas.List.Elements.{All-nil, All-cons}
use Rattle.std.proofs.lemmas.List.Folds.{list_any-append}
use Rattle.crib_cards.specs.Sets.{has, are_distinct}
use Rattle.crib_cards.specs.Cards.{IsCard, rank_of, IsRank}

-- ---- members of a list

pub has_here : (x : ℕ) (xs : List ℕ) → has (x ∷ xs) x ≡ true
has_here x xs = or_left (eqb x x) (has xs x) (eq-eqb x x refl)

pub has_there : (x y : ℕ) (xs : List ℕ) → has xs y ≡ true → has (x ∷ xs) y ≡ true
has_there x y xs h = or_right (eqb x y) (has xs y) h

pub has_cases : (x y : ℕ) (xs : List ℕ) → has (x ∷ xs) y ≡ true → (x ≡ y) ⊎ (has xs y ≡ true)
has_cases x y xs h = grind (arith, nat_tests)

-- each number of the first list is in the second
abbrev pub AreAmong : List ℕ → List ℕ → Type 0
AreAmong cards xs = (x : ℕ) → has xs x ≡ true → has cards x ≡ true

-- all numbers of a list are cards
abbrev pub AreCards : List ℕ → Type 0
AreCards xs = (x : ℕ) → has xs x ≡ true → IsCard x

pub all_has : (p : ℕ → Bool) (xs : List ℕ) (x : ℕ) → list_all p xs ≡ true → has xs x ≡ true → p x ≡ true
all_has p [] x all h = absurd (both_ways false refl h)
all_has p (y ∷ xs) x all h = grind (arith, nat_tests, all_has p xs x)

pub all_from : (p : ℕ → Bool) (xs : List ℕ) → ((x : ℕ) → has xs x ≡ true → p x ≡ true) → list_all p xs ≡ true
all_from p [] each = refl
all_from p (x ∷ xs) each = and_from (p x) (list_all p xs) (each x (has_here x xs)) (all_from p xs (λ y h. each y (has_there x y xs h)))

pub any_found : (p : ℕ → Bool) (xs : List ℕ) → list_any p xs ≡ true → (x : ℕ) × (has xs x ≡ true) × (p x ≡ true)
any_found p [] any = absurd (both_ways false refl any)
any_found p (x ∷ xs) any = elim (or_cases (p x) (list_any p xs) any) [
  | inl here ↦ (x, has_here x xs, here)
  | inr there ↦ let found = any_found p xs there in (found.0, has_there x found.0 xs found.1, found.2)
]

pub any_from : (p : ℕ → Bool) (xs : List ℕ) (x : ℕ) → has xs x ≡ true → p x ≡ true → list_any p xs ≡ true
any_from p [] x h passes = absurd (both_ways false refl h)
any_from p (y ∷ xs) x h passes = grind (arith, nat_tests, any_from p xs x)

pub all_cards : (xs : List ℕ) → AreCards xs → All IsCard xs
all_cards [] are = All-nil IsCard
all_cards (x ∷ xs) are = All-cons IsCard x xs (are x (has_here x xs)) (all_cards xs (λ y h. are y (has_there x y xs h)))

pub rank_is : (card : ℕ) → IsCard card → IsRank (rank_of card)
rank_is card is = (omega arith, omega arith)

-- ---- lists with no number twice

pub distinct_parts : (x : ℕ) (xs : List ℕ) → are_distinct (x ∷ xs) ≡ true → (has xs x ≡ false) × (are_distinct xs ≡ true)
distinct_parts x xs distinct = grind (arith, nat_tests)

pub distinct_append : (xs ys : List ℕ) → are_distinct xs ≡ true → are_distinct ys ≡ true → ((x : ℕ) → has xs x ≡ true → has ys x ≡ false) →
    are_distinct (xs ++ ys) ≡ true
distinct_append [] ys dx dy apart = dy
distinct_append (x ∷ xs) ys dx dy apart =
    let rest = distinct_append xs ys (distinct_parts x xs dx).1 dy (λ y h. apart y (has_there x y xs h)) in
    grind (arith, nat_tests, list_any-append (λ other. eqb other x) xs ys, apart x (has_here x xs), rest)

pub distinct_left : (xs ys : List ℕ) → are_distinct (xs ++ ys) ≡ true → are_distinct xs ≡ true
distinct_left [] ys distinct = refl
distinct_left (x ∷ xs) ys distinct = grind (arith, nat_tests, list_any-append (λ other. eqb other x) xs ys, distinct_left xs ys)

pub distinct_right : (xs ys : List ℕ) → are_distinct (xs ++ ys) ≡ true → are_distinct ys ≡ true
distinct_right [] ys distinct = distinct
distinct_right (x ∷ xs) ys distinct = distinct_right xs ys (distinct_parts x (xs ++ ys) distinct).1

pub distinct_apart : (xs ys : List ℕ) (y : ℕ) → are_distinct (xs ++ ys) ≡ true → has xs y ≡ true → has ys y ≡ false
distinct_apart [] ys y distinct h = absurd (both_ways false refl h)
distinct_apart (x ∷ xs) ys y distinct h = grind (arith, nat_tests, list_any-append (λ other. eqb other x) xs ys, distinct_apart xs ys y)
