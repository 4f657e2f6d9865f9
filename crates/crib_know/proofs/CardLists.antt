-- Lists of cards as sets, and counts of ranks.
use Rattle.std.proofs.Common.{rules}
use Rattle.std.proofs.lemmas.Bool.Decides.{nat_tests}
use Rattle.crib_cards.proofs.SetCounts.{length-count_all}
use Rattle.std.proofs.Common.{◌≡◌, ℕ, zero, suc, ◌+◌, ◌<◌, ◌≤◌, Bool, true, false, cond, ◌&&◌, eqb, List, [], ◌∷◌, map, length}
use Rattle.std.proofs.Common.{count_by, refl, sym, ap, subst, ◌∙◌, inl, inr, arith}
use Rattle.std.specs.List.{list_all, filter, range_with_len}
use Rattle.std.proofs.lemmas.Bool.{or_cases, both_ways}
use Rattle.crib_cards.specs.Cards.{IsCard, IsRank, ranks}
use Rattle.crib_cards.specs.Sets.{has, are_distinct, set_where, set_of}
use Rattle.crib_cards.proofs.SetFacts.{in_set_where}
use Rattle.crib_know.proofs.CardsLeft.{eqb_same, has-filter_from}
use Rattle.crib_cards.proofs.Members.{has_here, has_there, has_cases, all_has, all_from}
use Rattle.crib_cards.proofs.SetCounts.{count_cons, count_by-set_of}

-- ---- ranges
pub has_range_parts : (start n card : ℕ) → has (range_with_len start n) card ≡ true → (start ≤ card) × (card < start + n)
has_range_parts start zero card h = absurd (both_ways false refl h)
has_range_parts start (suc n) card h = search (rules, or_cases (eqb start card) (has (range_with_len (start + 1) n) card) h, has_range_parts (start + 1) n card)

pub has_range_from : (start n card : ℕ) → start ≤ card → card < start + n → has (range_with_len start n) card ≡ true
has_range_from start zero card low high = absurd (omega arith)
has_range_from start (suc n) card low high = grind (arith, nat_tests, has_range_from (start + 1) n card)

pub has_set_from : (p : ℕ → Bool) (card : ℕ) → IsCard card → p card ≡ true → has (set_where p) card ≡ true
unfolding set_where
has_set_from p card is e = has-filter_from p (range_with_len 0 52) card (has_range_from 0 52 card (omega arith) (omega arith)) e

-- what holds of the first number of a list and of the others holds of each
pub each_member : (P : ℕ → Type 0) (x : ℕ) (xs : List ℕ) → P x → ((y : ℕ) → has xs y ≡ true → P y) → (y : ℕ) → has (x ∷ xs) y ≡ true → P y
each_member P x xs first others y h = elim (has_cases x y xs h) [ inl here ↦ subst P here first | inr there ↦ others y there ]

-- ---- counts
abbrev pub one_if : Bool → ℕ
one_if b = cond b 1 0

pub one_same : (x : ℕ) → one_if (eqb x x) ≡ 1
one_same x = ap one_if (eqb_same x)

pub none_counted : (b : Bool) → b ≡ false → one_if b ≡ 0
none_counted b e = ap (one_if) e

pub count_here : (f : ℕ → Bool) (xs : List ℕ) (card : ℕ) → has xs card ≡ true → f card ≡ true → 1 ≤ count_by f xs
count_here f [] card h e = absurd (both_ways false refl h)
count_here f (x ∷ xs) card h e = grind (arith, nat_tests, count_cons f x xs, count_here f xs card)

pub record Counted (f : ℕ → Bool) (xs : List ℕ) : Type 0 where
  pub card : ℕ
  pub held : has xs card ≡ true
  pub passes : f card ≡ true

pub found_by : (f : ℕ → Bool) (xs : List ℕ) → 1 ≤ count_by f xs → Counted f xs
found_by f [] some = absurd (omega arith)
found_by f (x ∷ xs) some = search (rules, has_here x xs, found_by f xs, count_cons f x xs, none_counted (f x))

pub count_none_of : (f : ℕ → Bool) (xs : List ℕ) → ((card : ℕ) → has xs card ≡ true → f card ≡ false) → count_by f xs ≡ 0
count_none_of f [] each = refl
count_none_of f (x ∷ xs) each =
    omega (arith, count_cons f x xs, none_counted (f x) (each x (has_here x xs)), count_none_of f xs (λ card h. each card (has_there x card xs h)))

pub count_all_of : (xs : List ℕ) → count_by (λ _. true) xs ≡ length xs
count_all_of xs = sym (length-count_all xs)

pub count_map : (g : ℕ → ℕ) (r : ℕ) (xs : List ℕ) → count_by (λ x. eqb x r) (map g xs) ≡ count_by (λ x. eqb (g x) r) xs
count_map g r [] = refl
count_map g r (x ∷ xs) = count_cons (λ y. eqb y r) (g x) (map g xs) ∙ ap (λ (n : ℕ). cond (eqb (g x) r) 1 0 + n) (count_map g r xs)
    ∙ sym (count_cons (λ y. eqb (g y) r) x xs)

-- the cards of a filtered list that pass a test are those of the list that pass both tests
pub count_filter : (f p : ℕ → Bool) (xs : List ℕ) → count_by f (filter p xs) ≡ count_by (λ c. p c && f c) xs
count_filter f p [] = refl
count_filter f p (x ∷ xs) =
    (elim (p x) as (λ b. count_by f (cond b (x ∷ filter p xs) (filter p xs)) ≡ one_if (b && f x) + count_by f (filter p xs)) [
      | true ↦ count_cons f x (filter p xs)
      | false ↦ omega arith
    ])
    ∙ ap (λ (n : ℕ). cond (p x && f x) 1 0 + n) (count_filter f p xs) ∙ sym (count_cons (λ c. p c && f c) x xs)

-- if each number that passes one test passes another, no more pass the first
count_le : (f g : ℕ → Bool) (xs : List ℕ) → ((x : ℕ) → has xs x ≡ true → one_if (f x) ≤ one_if (g x)) → count_by f xs ≤ count_by g xs
count_le f g [] each = omega arith
count_le f g (x ∷ xs) each = omega (arith, count_cons f x xs, count_cons g x xs, each x (has_here x xs), count_le f g xs (λ y h. each y (has_there x y xs h)))

-- if each number passes as many of two tests as it passes of a third, so do all
pub count_sum : (f g h : ℕ → Bool) (xs : List ℕ) → ((x : ℕ) → one_if (f x) ≡ one_if (g x) + one_if (h x)) → count_by f xs ≡ count_by g xs + count_by h xs
count_sum f g h [] each = refl
count_sum f g h (x ∷ xs) each =
    let rest = count_sum f g h xs each in omega (arith, count_cons f x xs, count_cons g x xs, count_cons h x xs, each x, rest)

-- fewer cards pass a test that asks more
pub count_fewer : (f p q : ℕ → Bool) (xs : List ℕ) → ((x : ℕ) → has xs x ≡ true → p x ≡ true → q x ≡ true) → count_by f (filter p xs) ≤ count_by f (filter q xs)
count_fewer f p q xs harder =
    let fewer = count_le (λ c. p c && f c) (λ c. q c && f c) xs (λ x h. grind (arith, nat_tests, harder x h)) in
    omega (arith, fewer, count_filter f p xs, count_filter f q xs)

-- ---- a list and its set
pub count_within : (f p : ℕ → Bool) (xs : List ℕ) → are_distinct xs ≡ true → ((card : ℕ) → has xs card ≡ true → has (set_where p) card ≡ true) →
    count_by f xs ≤ count_by f (set_where p)
unfolding set_where
count_within f p xs distinct within =
    let fewer : count_by f (set_of xs) ≤ count_by f (set_where p) =
    count_fewer f (has xs) p (range_with_len 0 52) (λ card is h. (in_set_where p card (within card h)).1) in
    omega (arith, count_by-set_of f xs distinct (λ card h. (in_set_where p card (within card h)).0), fewer)

-- ---- counts of ranks
pub all_ranks_from : (p : ℕ → Bool) → ((rank : ℕ) → IsRank rank → p rank ≡ true) → list_all p ranks ≡ true
all_ranks_from p each = all_from p (range_with_len 1 13) (λ rank h. let within = has_range_parts 1 13 rank h in each rank (within.0, omega (arith, within.1)))

pub all_ranks : (p : ℕ → Bool) → list_all p ranks ≡ true → (rank : ℕ) → IsRank rank → p rank ≡ true
all_ranks p all rank is = all_has p (range_with_len 1 13) rank all (has_range_from 1 13 rank is.0 (omega (arith, is.1)))
