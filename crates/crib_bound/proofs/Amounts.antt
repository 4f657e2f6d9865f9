-- Sums of amounts over a list of deals, and how many deals have some.
use Rattle.std.proofs.Common.{◌≡◌, ◌≢◌, ◌⊎◌, ℕ, zero, suc, ◌+◌, ◌*◌, ◌≤◌, Bool, true, false, cond, List, [], ◌∷◌, length}
use Rattle.std.proofs.Common.{count_by, sum_by, refl, sym, ap, ◌∙◌, inl, inr, arith}
use Rattle.std.specs.List.{AllByRecursion}
use Rattle.std.proofs.lemmas.List.Sums.{sum_by-cons}
use Rattle.crib_cards.specs.Sets.{AreDifferent}
use Rattle.crib_cards.specs.declared.sides.Dealt.{Dealt}
use Rattle.crib_deals.specs.Exact.{IsIn}

-- some sum is of some amount
pub sum_some : (amounts : Dealt → ℕ) (xs : List Dealt) → 1 ≤ sum_by amounts xs → (x : Dealt) × IsIn x xs × (1 ≤ amounts x)
sum_some amounts [] some = absurd (omega (arith, some))
sum_some amounts (x ∷ xs) some = here (λ more. sum_some amounts xs more) (amounts x) refl
  where
    here : (1 ≤ sum_by amounts xs → (y : Dealt) × IsIn y xs × (1 ≤ amounts y)) → (amount : ℕ) → amounts x ≡ amount →
        (y : Dealt) × IsIn y (x ∷ xs) × (1 ≤ amounts y)
    here rest zero none = let one = rest (omega (arith, some, sum_by-cons amounts x xs, none)) in (one.0, inr one.1, one.2)
    here rest (suc amount) is = (x, inl refl, omega (arith, is))

-- the sum of two amounts
pub sum_both : (one other : Dealt → ℕ) (xs : List Dealt) → sum_by (λ x. one x + other x) xs ≡ sum_by one xs + sum_by other xs
sum_both one other [] = refl
sum_both one other (x ∷ xs) =
    omega (arith, sum_by-cons (λ y. one y + other y) x xs, sum_by-cons one x xs, sum_by-cons other x xs, sum_both one other xs)

pub sum_less : (one other : Dealt → ℕ) (xs : List Dealt) → ((x : Dealt) → IsIn x xs → one x ≤ other x) → sum_by one xs ≤ sum_by other xs
sum_less one other [] less = omega arith
sum_less one other (x ∷ xs) less =
    omega (arith, sum_by-cons one x xs, sum_by-cons other x xs, less x (inl refl), sum_less one other xs (λ y h. less y (inr h)))

apart_from : (x : Dealt) (xs : List Dealt) → AllByRecursion (λ other. x ≢ other) xs → (y : Dealt) → IsIn y xs → x ≡ y → ⊥
apart_from x [] apart y h same = h
apart_from x (z ∷ xs) apart y (inl e) same = apart.0 (same ∙ sym e)
apart_from x (z ∷ xs) apart y (inr h) same = apart_from x xs apart.1 y h same

-- a list without one of its members
without : (most : Dealt → ℕ) (x : Dealt) (xs : List Dealt) → IsIn x xs →
    (rest : List Dealt) × (sum_by most xs ≡ sum_by most rest + most x) × ((y : Dealt) → IsIn y xs → (x ≡ y) ⊎ IsIn y rest)
without most x [] h = absurd h
without most x (y ∷ xs) (inl e) = (xs, omega (arith, sum_by-cons most y xs, ap most e), λ z h. grind (arith, e, h))
without most x (y ∷ xs) (inr h) =
    let below = without most x xs h in
    (y ∷ below.0, omega (arith, below.1, sum_by-cons most y xs, sum_by-cons most y below.0), λ z h. grind (arith, h, below.2 z))

-- amounts that are at most so much each, where each of which there is some goes to another place of another list
pub sum_images : (image : Dealt → Dealt) (amounts most : Dealt → ℕ) (xs ys : List Dealt) → AreDifferent xs →
    ((x : Dealt) → IsIn x xs → amounts x ≤ most (image x)) → ((x : Dealt) → IsIn x xs → 1 ≤ amounts x → IsIn (image x) ys) →
    ((x y : Dealt) → IsIn x xs → IsIn y xs → 1 ≤ amounts x → 1 ≤ amounts y → image x ≡ image y → x ≡ y) → sum_by amounts xs ≤ sum_by most ys
sum_images image amounts most [] ys apart few within one = omega arith
sum_images image amounts most (x ∷ xs) ys apart few within one =
    here (λ zs less. sum_images image amounts most xs zs apart.1 (λ y h. few y (inr h)) less (λ y z h k. one y z (inr h) (inr k))) (amounts x) refl
  where
    here : ((zs : List Dealt) → ((y : Dealt) → IsIn y xs → 1 ≤ amounts y → IsIn (image y) zs) → sum_by amounts xs ≤ sum_by most zs) → (amount : ℕ) →
        amounts x ≡ amount → sum_by amounts (x ∷ xs) ≤ sum_by most ys
    here rest zero none = omega (arith, sum_by-cons amounts x xs, none, rest ys (λ y h. within y (inr h)))
    here rest (suc amount) some =
        let more : 1 ≤ amounts x = omega (arith, some) in
        let left = without most (image x) ys (within x (inl refl) more) in
        let below = rest left.0 (λ y h much. elim (left.2 (image y) (within y (inr h) much)) [
          | inl same ↦ absurd (apart_from x xs apart.0 y h (one x y (inl refl) (inr h) more much same))
          | inr there ↦ there
        ]) in
        omega (arith, left.1, sum_by-cons amounts x xs, few x (inl refl), below)

-- amounts that are at most so much each, where each of which there is some is in another list
pub sum_within : (amounts most : Dealt → ℕ) (xs ys : List Dealt) → AreDifferent xs → ((x : Dealt) → IsIn x xs → amounts x ≤ most x) →
    ((x : Dealt) → IsIn x xs → 1 ≤ amounts x → IsIn x ys) → sum_by amounts xs ≤ sum_by most ys
sum_within amounts most xs ys apart few within = sum_images (λ x. x) amounts most xs ys apart few within (λ x y h k some more same. same)

-- a part of an amount, or nothing
pub part_few : (kept : Bool) (parts : ℕ) → cond kept parts 0 ≤ parts
part_few true parts = omega arith
part_few false parts = omega arith

pub passing : (passes : Bool) → 1 ≤ cond passes 1 0 → passes ≡ true
passing true some = refl
passing false some = absurd (omega (arith, some))

-- the same of each
pub sum_same : (amount : ℕ) (xs : List Dealt) → sum_by (λ x. amount) xs ≡ amount * length xs
sum_same amount [] = omega arith
sum_same amount (x ∷ xs) =
    let more : amount * length (x ∷ xs) ≡ amount * length xs + amount = grind arith in
    omega (arith, sum_by-cons (λ y. amount) x xs, sum_same amount xs, more)

-- different deals of a list that pass a test are no more than all of it that do
pub few_in : (test : Dealt → Bool) (xs ys : List Dealt) → AreDifferent xs → ((x : Dealt) → IsIn x xs → IsIn x ys × (test x ≡ true)) →
    length xs ≤ count_by test ys
few_in test xs ys apart within =
    let most = sum_within (λ x. 1) (λ x. cond (test x) 1 0) xs ys apart (λ x h. one (test x) (within x h).1) (λ x h some. (within x h).0) in
    omega (arith, most, sum_same 1 xs)
  where
    one : (passes : Bool) → passes ≡ true → 1 ≤ cond passes 1 0
    one passes is = rw is (omega arith)
