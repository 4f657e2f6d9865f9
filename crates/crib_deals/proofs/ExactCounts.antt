-- Lists without repetition, and exact counts of deals.
use Rattle.std.proofs.Common.{◌≡◌, ◌≢◌, ◌⊎◌, ◌↔◌, ℕ, ◌+◌, ◌-◌, ◌<◌, ◌≤◌, Bool, true, false, not, cond, List, [], ◌∷◌, ◌++◌, length}
use Rattle.std.proofs.Common.{refl, sym, ap, subst, ◌∙◌, inl, inr, arith, length-append}
use Rattle.std.specs.List.{All, AllByRecursion, filter}
use Rattle.std.proofs.lemmas.Bool.{both_ways, cases_Bool}
use Rattle.std.proofs.lemmas.Bool.Decides.{nat_tests}
use Rattle.std.proofs.lemmas.List.Elements.{All-head, All-tail}
use Rattle.crib_cards.proofs.AllEntries.{all_both}
use Rattle.crib_cards.specs.Deals.{is_in_pack_order}
use Rattle.crib_cards.specs.Sets.{AreDifferent}
use Rattle.crib_cards.specs.declared.sides.Dealt.{Dealt}
use Rattle.crib_deals.specs.Exact.{IsIn, AreExactly}

-- ---- members
pub in_append : {X : Type 0} (x : X) (xs ys : List X) → IsIn x (xs ++ ys) ↔ (IsIn x xs ⊎ IsIn x ys)
in_append x [] ys = grind arith
in_append x (y ∷ xs) ys = grind (arith, in_append x xs ys)

pub in_all : {X : Type 0} (P : X → Type 0) (x : X) (xs : List X) → All P xs → IsIn x xs → P x
in_all P x [] all h = absurd h
in_all P x (y ∷ xs) all h = let first = All-head P y xs all in grind (arith, h, first, in_all P x xs (All-tail P y xs all))

all_by_items : {X : Type 0} (P : X → Type 0) (xs : List X) → ((x : X) → IsIn x xs → P x) → AllByRecursion P xs
all_by_items P [] each = tt
all_by_items P (x ∷ xs) each = (each x (inl refl), all_by_items P xs (λ y h. each y (inr h)))

all_at : {X : Type 0} (P : X → Type 0) (x : X) (xs : List X) → AllByRecursion P xs → IsIn x xs → P x
all_at P x [] all h = absurd h
all_at P x (y ∷ xs) all (inl e) = subst P e all.0
all_at P x (y ∷ xs) all (inr h) = all_at P x xs all.1 h

-- ---- lists without repetition
different_append : {X : Type 0} (xs ys : List X) → AreDifferent xs → AreDifferent ys → ((x : X) → IsIn x xs → IsIn x ys → ⊥) → AreDifferent (xs ++ ys)
different_append [] ys one other apart = other
different_append (x ∷ xs) ys one other apart = (
  all_both (λ y. x ≢ y) xs ys one.0 (all_by_items (λ y. x ≢ y) ys (λ y h e. apart y (inl e) h)),
  different_append xs ys one.1 other (λ y h. apart y (inr h)),
)

-- a list without one of its members
without : {X : Type 0} (x : X) (xs : List X) → IsIn x xs → (rest : List X) × (length xs ≡ length rest + 1) × ((y : X) → IsIn y xs → (x ≡ y) ⊎ IsIn y rest)
without x [] h = absurd h
without x (y ∷ xs) (inl e) = (xs, omega arith, λ z h. grind (arith, e, h))
without x (y ∷ xs) (inr h) = let below = without x xs h in (y ∷ below.0, omega (arith, below.1), λ z h. grind (arith, h, below.2 z))

no_fewer : {X : Type 0} (xs ys : List X) → AreDifferent xs → ((x : X) → IsIn x xs → IsIn x ys) → length xs ≤ length ys
no_fewer [] ys apart within = omega arith
no_fewer (x ∷ xs) ys apart within =
    let left = without x ys (within x (inl refl)) in
    let fewer = no_fewer xs left.0 apart.1 (λ y h. grind (arith, left.2 y (within y (inr h)), all_at (λ z. x ≢ z) y xs apart.0 h)) in
    omega (arith, left.1, fewer)

-- ---- exact counts
pub exactly_one : {Has : Dealt → Type 0} {one other : ℕ} → AreExactly Has one → AreExactly Has other → one ≡ other
exactly_one first second =
    let less = no_fewer first.deals second.deals first.different (λ dealt h. (second.each dealt).1 ((first.each dealt).0 h)) in
    let more = no_fewer second.deals first.deals second.different (λ dealt h. (first.each dealt).1 ((second.each dealt).0 h)) in
    omega (arith, less, more, first.counted, second.counted)

pub exactly_none : {Has : Dealt → Type 0} → ((dealt : Dealt) → is_in_pack_order dealt ≡ true → Has dealt → ⊥) → AreExactly Has 0
exactly_none none = record { deals = []; different = tt; each = λ dealt. (λ h. absurd h, λ has. none dealt has.0 has.1); counted = refl }

pub exactly_zero : {Has : Dealt → Type 0} → AreExactly Has 0 → (dealt : Dealt) → is_in_pack_order dealt ≡ true → Has dealt → ⊥
exactly_zero exact dealt order has =
    absurd (omega (arith, exact.counted, (without dealt exact.deals ((exact.each dealt).1 (order, has))).1))

pub exactly_some : {Has : Dealt → Type 0} {count : ℕ} → 0 < count → AreExactly Has count → (dealt : Dealt) × (is_in_pack_order dealt ≡ true) × Has dealt
exactly_some some exact = let one = first exact.deals (rw exact.counted some) in let has = (exact.each one.0).0 one.1 in (one.0, has.0, has.1)
  where
    first : (deals : List Dealt) → 0 < length deals → (dealt : Dealt) × IsIn dealt deals
    first [] some = absurd (omega (arith, some))
    first (dealt ∷ deals) some = (dealt, inl refl)

-- the deals of a property that says the same
pub exactly_same : {Has Also : Dealt → Type 0} {count : ℕ} → ((dealt : Dealt) → is_in_pack_order dealt ≡ true → Has dealt → Also dealt) →
    ((dealt : Dealt) → is_in_pack_order dealt ≡ true → Also dealt → Has dealt) → AreExactly Has count → AreExactly Also count
exactly_same to from exact =
    record { deals = exact.deals; different = exact.different; each = λ dealt. grind (arith, exact.each dealt, to dealt, from dealt); counted = exact.counted }

-- the deals of one of two properties, of which no deal has both
pub exactly_either : {One Other Has : Dealt → Type 0} {count more : ℕ} → ((dealt : Dealt) → Has dealt → One dealt ⊎ Other dealt) →
    ((dealt : Dealt) → One dealt → Has dealt) → ((dealt : Dealt) → Other dealt → Has dealt) → ((dealt : Dealt) → One dealt → Other dealt → ⊥) →
    AreExactly One count → AreExactly Other more → AreExactly Has (count + more)
exactly_either parts one_has other_has apart one other = record {
  deals = one.deals ++ other.deals;
  different = different_append one.deals other.deals one.different other.different
      (λ dealt left right. apart dealt ((one.each dealt).0 left).1 ((other.each dealt).0 right).1);
  each = λ dealt. grind (arith, in_append dealt one.deals other.deals, one.each dealt, other.each dealt, parts dealt, one_has dealt, other_has dealt);
  counted = length-append one.deals other.deals ∙ (λ i. one.counted i + other.counted i);
}

-- no more deals have a property than one that follows from it
pub exactly_fewer : {Has Also : Dealt → Type 0} {count more : ℕ} → ((dealt : Dealt) → is_in_pack_order dealt ≡ true → Has dealt → Also dealt) →
    AreExactly Has count → AreExactly Also more → count ≤ more
exactly_fewer within first second =
    let few = no_fewer first.deals second.deals first.different
    (λ dealt h. let is = (first.each dealt).0 h in (second.each dealt).1 (is.0, within dealt is.0 is.1)) in
    omega (arith, few, first.counted, second.counted)

-- the deals of a property that pass a test
in_filter : {X : Type 0} (test : X → Bool) (x : X) (xs : List X) → IsIn x (filter test xs) ↔ (IsIn x xs × (test x ≡ true))
in_filter test x [] = (λ h. absurd h, λ h. absurd h.0)
in_filter test x (y ∷ xs) = by_test (in_filter test x xs) (test y) refl
  where
    by_test : IsIn x (filter test xs) ↔ (IsIn x xs × (test x ≡ true)) → (passes : Bool) → test y ≡ passes →
        IsIn x (filter test (y ∷ xs)) ↔ (IsIn x (y ∷ xs) × (test x ≡ true))
    by_test rest true is = rw is (
      (λ h. elim h [ inl same ↦ (inl same, sym (ap test same) ∙ is) | inr more ↦ let found = rest.0 more in (inr found.0, found.1) ]),
      (λ h. elim h.0 [ inl same ↦ inl same | inr more ↦ inr (rest.1 (more, h.1)) ]),
    )
    by_test rest false is = rw is (
      (λ h. let found = rest.0 h in (inr found.0, found.1)),
      (λ h. elim h.0 [ inl same ↦ absurd (both_ways (test y) is (ap test same ∙ h.1)) | inr more ↦ rest.1 (more, h.1) ]),
    )

different_filter : (test : Dealt → Bool) (xs : List Dealt) → AreDifferent xs → AreDifferent (filter test xs)
different_filter test [] different = tt
different_filter test (x ∷ xs) different = by_test (different_filter test xs different.1) (test x) refl
  where
    by_test : AreDifferent (filter test xs) → (passes : Bool) → test x ≡ passes → AreDifferent (filter test (x ∷ xs))
    by_test rest true is = rw is
        (all_by_items (λ y. x ≢ y) (filter test xs) (λ y h. all_at (λ z. x ≢ z) y xs different.0 ((in_filter test y xs).0 h).0), rest)
    by_test rest false is = rw is rest

exactly_passing : {Has : Dealt → Type 0} {count : ℕ} (test : Dealt → Bool) → AreExactly Has count →
    (some : ℕ) × AreExactly (λ dealt. Has dealt × (test dealt ≡ true)) some
exactly_passing test exact = (
  length (filter test exact.deals),
  record {
    deals = filter test exact.deals;
    different = different_filter test exact.deals exact.different;
    each = λ dealt. grind (arith, in_filter test dealt exact.deals, exact.each dealt);
    counted = refl;
  },
)

-- the deals of a property that fail a test, if those that pass it are counted
pub exactly_rest : {Has Part Rest : Dealt → Type 0} {all part : ℕ} (test : Dealt → Bool) →
    ((dealt : Dealt) → is_in_pack_order dealt ≡ true → Part dealt ↔ (Has dealt × (test dealt ≡ true))) →
    ((dealt : Dealt) → is_in_pack_order dealt ≡ true → Rest dealt ↔ (Has dealt × (test dealt ≡ false))) →
    AreExactly Has all → AreExactly Part part → (part ≤ all) × AreExactly Rest (all - part)
exactly_rest {all = all} {part = part} test parts rests exact counted =
    let failed = exactly_passing (λ dealt. not (test dealt)) exact in
    let rest = exactly_same (λ dealt order has. (rests dealt order).1 (has.0, grind (arith, nat_tests, has.1))) (λ dealt order has. let is =
    (rests dealt order).0 has in (is.0, grind (arith, nat_tests, is.1))) failed.1 in
    let passed = exactly_same (λ dealt order has. (parts dealt order).0 has) (λ dealt order has. (parts dealt order).1 has) counted in
    let sum = exactly_one exact (exactly_either (λ dealt has. elim (cases_Bool (test dealt)) [
      | inl is ↦ inl (has, is)
      | inr is ↦ inr (
        has,
        grind (
          arith,
          nat_tests,
          is,
        ),
      )
    ])
    (λ dealt has. has.0) (λ dealt has. has.0) (λ dealt one other. grind (arith, nat_tests, one.1, other.1)) passed failed.1) in
    let left : failed.0 ≡ all - part = omega (arith, sum) in
    (omega (arith, sum), rw left at rest)

-- one deal, if a test passes
pub exactly_deal : (deal : Dealt) (passes : Bool) → is_in_pack_order deal ≡ true → AreExactly (λ dealt. (deal ≡ dealt) × (passes ≡ true)) (cond passes 1 0)
exactly_deal deal true order = record { deals = deal ∷ []; different = (tt, tt); each = λ dealt. grind (arith, order); counted = refl }
exactly_deal deal false order = exactly_none (λ dealt _ has. both_ways false refl has.1)
