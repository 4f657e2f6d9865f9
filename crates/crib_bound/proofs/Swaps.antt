-- Cards exchanged, and sums over renamings of cards.
use Rattle.std.proofs.Common.{◌≡◌, ◌≢◌, ℕ, zero, suc, ◌+◌, ◌*◌, ◌≤◌, Bool, true, false, cond, eqb, List, [], ◌∷◌, filter, count_by, sum_by, not, ◌&&◌}
use Rattle.std.proofs.Common.{refl, sym, ap, ◌∙◌, inl, inr, subst, arith}
use Rattle.std.proofs.lemmas.Bool.{and_from, and_parts, both_ways, cases_Bool, cases_eq, eqb-true, eq-eqb}
use Rattle.std.proofs.lemmas.Bool.Decides.{nat_tests}
use Rattle.std.proofs.lemmas.List.Sums.{sum_by-cons}
use Rattle.crib_cards.specs.Cards.{pack, rank_of}
use Rattle.crib_cards.specs.Sets.{has, are_distinct}
use Rattle.crib_cards.specs.declared.sides.Dealt.{Dealt}
use Rattle.crib_cards.proofs.Members.{distinct_parts, has_here, has_there}
use Rattle.crib_cards.proofs.SetFacts.{has-filter}
use Rattle.crib_show.proofs.Exchange.{front_of, has-reordered}
use Rattle.crib_show.proofs.ReorderedLists.{Reordered, are_distinct-reordered, sum_by-reordered}

-- a card, or the other one of two
abbrev pub swap : ℕ → ℕ → ℕ → ℕ
swap x y card = cond (eqb card x) y (cond (eqb card y) x card)

pub swap_same : (x card : ℕ) → swap x x card ≡ card
swap_same x card = grind (arith, nat_tests)

pub swap_turned : (x y card : ℕ) → swap x y card ≡ swap y x card
swap_turned x y card = grind (arith, nat_tests)

pub swap_first : (x y : ℕ) → swap x y x ≡ y
swap_first x y = grind (arith, nat_tests)

pub swap_second : (x y : ℕ) → swap x y y ≡ x
swap_second x y = grind (arith, nat_tests)

pub swap_other : (x y card : ℕ) → card ≢ x → card ≢ y → swap x y card ≡ card
swap_other x y card ne nf = grind (arith, nat_tests)

-- an exchange behind another one
swap_behind : (x y b c card : ℕ) → b ≢ x → b ≢ y → swap x y (swap b c card) ≡ swap b (swap x y c) (swap x y card)
swap_behind x y b c card ne nf = grind (arith, nat_tests)

swap_apart : (b y c card : ℕ) → c ≢ b → c ≢ y → y ≢ b → swap b y (swap b c card) ≡ swap b c (swap c y card)
swap_apart b y c card ne nf ng = grind (arith, nat_tests)

pub swap_back : (b y card : ℕ) → swap b y (swap b y card) ≡ card
swap_back b y card = grind (arith, nat_tests)

-- ---- sums
pub sum_agree : (f g : ℕ → ℕ) (xs : List ℕ) → ((x : ℕ) → has xs x ≡ true → f x ≡ g x) → sum_by f xs ≡ sum_by g xs
sum_agree f g [] same = refl
sum_agree f g (x ∷ xs) same =
    omega (arith, sum_by-cons f x xs, sum_by-cons g x xs, same x (has_here x xs), sum_agree f g xs (λ y h. same y (has_there x y xs h)))

pub sum_swapped : (f : ℕ → ℕ) (x y : ℕ) (xs : List ℕ) → are_distinct xs ≡ true → has xs x ≡ true → has xs y ≡ true →
    sum_by (λ card. f (swap x y card)) xs ≡ sum_by f xs
sum_swapped f x y xs distinct in_x in_y = elim (cases_eq x y) [
  | inl same ↦ sum_agree (λ card. f (swap x y card)) f xs (λ card h. ap f (ap (λ (k : ℕ). swap x k card) (sym same) ∙ swap_same x card))
  | inr apart ↦
      let front = front_of x xs in_x in
      let parts = distinct_parts x front.rest (sym (are_distinct-reordered xs (x ∷ front.rest) front.order) ∙ distinct) in
      let there : has front.rest y ≡ true = grind (arith, nat_tests, apart, sym (has-reordered xs (x ∷ front.rest) y front.order) ∙ in_y) in
      let second = front_of y front.rest there in
      let others = distinct_parts y second.rest (sym (are_distinct-reordered front.rest (y ∷ second.rest) second.order) ∙ parts.1) in
      let out_x : has second.rest x ≡ false = grind (arith, nat_tests, parts.0, has-reordered front.rest (y ∷ second.rest) x second.order) in
      let rest = sum_agree (λ card. f (swap x y card)) f second.rest
      (λ card h. ap f (swap_other x y card (λ is. both_ways _ out_x (subst (λ (k : ℕ). has second.rest k ≡ true) is h))
      (λ is. both_ways _ others.0 (subst (λ (k : ℕ). has second.rest k ≡ true) is h)))) in
      both_sums (λ card. f (swap x y card)) f x y xs front.rest second.rest front.order second.order (ap f (swap_first x y)) (ap f (swap_second x y)) rest
]
  where
    both_sums : (f g : ℕ → ℕ) (x y : ℕ) (xs us vs : List ℕ) → Reordered xs (x ∷ us) → Reordered us (y ∷ vs) → f x ≡ g y → f y ≡ g x →
        sum_by f vs ≡ sum_by g vs → sum_by f xs ≡ sum_by g xs
    both_sums f g x y xs us vs r s first second rest =
        omega (
          arith,
          first,
          second,
          rest,
          sum_by-reordered f xs (x ∷ us) r,
          sum_by-cons f x us,
          sum_by-reordered f us (y ∷ vs) s,
          sum_by-cons f y vs,
          sum_by-reordered g xs (x ∷ us) r,
          sum_by-cons g x us,
          sum_by-reordered g us (y ∷ vs) s,
          sum_by-cons g y vs,
        )

sum_times : (k : ℕ) (f : ℕ → ℕ) (xs : List ℕ) → sum_by (λ x. k * f x) xs ≡ k * sum_by f xs
sum_times k f [] = omega arith
sum_times k f (x ∷ xs) =
    let more : k * (f x + sum_by f xs) ≡ k * f x + k * sum_by f xs = grind arith in
    sum_by-cons (λ y. k * f y) x xs ∙ ap (λ n. k * f x + n) (sum_times k f xs) ∙ sym more ∙ ap (λ n. k * n) (sym (sum_by-cons f x xs))

pub sum_fewer : (f g : ℕ → ℕ) (xs : List ℕ) → ((x : ℕ) → has xs x ≡ true → f x ≤ g x) → sum_by f xs ≤ sum_by g xs
sum_fewer f g [] less = omega arith
sum_fewer f g (x ∷ xs) less =
    omega (arith, sum_by-cons f x xs, sum_by-cons g x xs, less x (has_here x xs), sum_fewer f g xs (λ y h. less y (has_there x y xs h)))

-- ---- renamings
-- a renaming of free cards: each keeps its rank, and the pack stays whole
pub record IsRenaming (free : List ℕ) (name : ℕ → ℕ) : Type 0 where
  pub ranks : (card : ℕ) → rank_of (name card) ≡ rank_of card
  pub kept : (card : ℕ) → has free card ≡ false → name card ≡ card
  pub inside : (card : ℕ) → has free (name card) ≡ has free card
  pub counts : (test : ℕ → Bool) → count_by (λ card. test (name card)) pack ≡ count_by test pack

pub no_renaming : (free : List ℕ) → IsRenaming free (λ card. card)
no_renaming free = record { ranks = λ card. refl; kept = λ card out. refl; inside = λ card. refl; counts = λ test. refl }

pub renamed_twice : {free : List ℕ} {one other : ℕ → ℕ} → IsRenaming free one → IsRenaming free other → IsRenaming free (λ card. one (other card))
renamed_twice {free} {one} {other} first second = record {
  ranks = λ card. first.ranks (other card) ∙ second.ranks card;
  kept = λ card out. ap one (second.kept card out) ∙ first.kept card out;
  inside = λ card. first.inside (other card) ∙ second.inside card;
  counts = λ test. second.counts (λ card. test (one card)) ∙ first.counts test;
}

-- free cards of the pack
abbrev pub AreFreeCards : List ℕ → List ℕ → Type 0
AreFreeCards free cards = (card : ℕ) → has cards card ≡ true → (has free card ≡ true) × (has pack card ≡ true)

pub exchanged : {free : List ℕ} (x y : ℕ) → has free x ≡ true → has free y ≡ true → has pack x ≡ true → has pack y ≡ true → rank_of x ≡ rank_of y →
    IsRenaming free (swap x y)
exchanged {free} x y free_x free_y in_x in_y same = record {
  ranks = λ card. by (λ k. rank_of k) card same;
  kept = λ card out. swap_other x y card (λ is. both_ways _ out (ap (has free) is ∙ free_x)) (λ is. both_ways _ out (ap (has free) is ∙ free_y));
  inside = λ card. by (has free) card (free_x ∙ sym free_y);
  counts = λ test. sum_swapped (λ card. cond (test card) 1 0) x y pack refl in_x in_y;
}
  where
    by : {X : Type 0} (f : ℕ → X) (card : ℕ) → f x ≡ f y → f (swap x y card) ≡ f card
    by f card same = elim (cases_eq card x) [
      | inl is ↦ ap f (ap (swap x y) is ∙ swap_first x y) ∙ sym same ∙ ap f (sym is)
      | inr ne ↦ elim (cases_eq card y) [
        | inl is ↦ ap f (ap (swap x y) is ∙ swap_second x y) ∙ same ∙ ap f (sym is)
        | inr nf ↦ ap f (swap_other x y card ne nf)
      ]
    ]

-- ---- the sum over all renamings of some cards
-- a renaming and then an exchange
abbrev swap_after : ℕ → ℕ → (ℕ → ℕ) → ℕ → ℕ
swap_after x y name card = swap x y (name card)

abbrev pub mates : ℕ → List ℕ → List ℕ
mates card cards = filter (λ other. eqb (rank_of other) (rank_of card)) cards

unfoldable pub total : List ℕ → ((ℕ → ℕ) → ℕ) → ℕ
total [] f = f (λ card. card)
total (first ∷ cards) f = sum_by (λ other. total cards (λ name. f (swap_after first other name))) (mates first (first ∷ cards))

mate_is : (first other : ℕ) (cards : List ℕ) → has (mates first cards) other ≡ true → (has cards other ≡ true) × (rank_of other ≡ rank_of first)
mate_is first other cards h =
    let parts = and_parts _ _ (sym (has-filter (λ card. eqb (rank_of card) (rank_of first)) cards other) ∙ h) in
    (parts.0, eqb-true (rank_of other) (rank_of first) parts.1)

step_renamed : {free : List ℕ} (first other : ℕ) (cards : List ℕ) → AreFreeCards free (first ∷ cards) → has (mates first (first ∷ cards)) other ≡ true →
    IsRenaming free (swap first other)
step_renamed first other cards are h =
    let mate = mate_is first other (first ∷ cards) h in
    let here = are first (has_here first cards) in
    let there = are other mate.0 in
    exchanged first other here.0 there.0 here.1 there.1 (sym mate.1)

pub total_less : {free : List ℕ} (cards : List ℕ) (f g : (ℕ → ℕ) → ℕ) → AreFreeCards free cards → ((name : ℕ → ℕ) → IsRenaming free name → f name ≤ g name) →
    total cards f ≤ total cards g
unfolding total
total_less {free} [] f g are less = less (λ card. card) (no_renaming free)
total_less {free} (first ∷ cards) f g are less =
    sum_fewer (λ other. total cards (λ name. f (swap_after first other name))) (λ other. total cards (λ name. g (swap_after first other name)))
    (mates first (first ∷ cards))
    (λ other h. total_less cards (λ name. f (swap_after first other name)) (λ name. g (swap_after first other name))
    (λ card in_it. are card (has_there first card cards in_it))
    (λ name is. less (swap_after first other name) (renamed_twice (step_renamed first other cards are h) is)))

pub total_times : (cards : List ℕ) (k : ℕ) (f : (ℕ → ℕ) → ℕ) → total cards (λ name. k * f name) ≡ k * total cards f
unfolding total
total_times [] k f = refl
total_times (first ∷ cards) k f =
    sum_agree (λ other. total cards (λ name. k * f (swap_after first other name)))
    (λ other. k * total cards (λ name. f (swap_after first other name))) (mates first (first ∷ cards))
    (λ other h. total_times cards k (λ name. f (swap_after first other name)))
    ∙ sum_times k (λ other. total cards (λ name. f (swap_after first other name))) (mates first (first ∷ cards))

-- there is some renaming
pub total_some : (cards : List ℕ) → 1 ≤ total cards (λ name. 1)
unfolding total
total_some [] = omega arith
total_some (first ∷ cards) =
    let here : has (mates first (first ∷ cards)) first ≡ true = has-filter (λ card. eqb (rank_of card) (rank_of first)) (first ∷ cards) first
    ∙ and_from _ _ (has_here first cards) (eq-eqb (rank_of first) (rank_of first) refl) in
    least (total_some cards) (mates first (first ∷ cards)) here
  where
    least : 1 ≤ total cards (λ name. 1) → (xs : List ℕ) → has xs first ≡ true → 1 ≤ sum_by (λ other. total cards (λ name. 1)) xs
    least some [] h = absurd (both_ways false refl h)
    least some (x ∷ xs) h = omega (arith, sum_by-cons (λ other. total cards (λ name. 1)) x xs, some)

same_total : (cards : List ℕ) (f : (ℕ → ℕ) → ℕ) (g h : (ℕ → ℕ) → ℕ → ℕ) → ((name : ℕ → ℕ) (card : ℕ) → g name card ≡ h name card) →
    total cards (λ name. f (g name)) ≡ total cards (λ name. f (h name))
same_total cards f g h same = λ i. total cards (λ name. f (λ card. same name card i))

-- an exchange of two cards changes no sum over all renamings
abbrev pub AreSwapped : List ℕ → Type 0
AreSwapped cards = (f : (ℕ → ℕ) → ℕ) (x y : ℕ) → has cards x ≡ true → has cards y ≡ true → rank_of x ≡ rank_of y →
    total cards (λ name. f (λ card. swap x y (name card))) ≡ total cards f

module _ (first : ℕ) (cards : List ℕ) (again : AreSwapped cards) (f : (ℕ → ℕ) → ℕ) (other : ℕ)
    (mate : has (first ∷ cards) other ≡ true) (rank : rank_of other ≡ rank_of first) where
  from_first : (y : ℕ) → first ≢ y → has (first ∷ cards) y ≡ true → rank_of y ≡ rank_of first →
      total cards (λ name. f (λ card. swap first y (swap first other (name card))))
      ≡ total cards (λ name. f (λ card. swap first (swap first y other) (name card)))
  from_first y apart in_y same = elim (cases_eq other first) [
    | inl is ↦ same_total cards f (λ name card. swap first y (swap first other (name card))) (λ name card. swap first (swap first y other) (name card))
        (λ name card. grind (arith, nat_tests, is))
    | inr ne ↦ elim (cases_eq other y) [
      | inl is ↦ same_total cards f (λ name card. swap first y (swap first other (name card))) (λ name card. swap first (swap first y other) (name card))
          (λ name card. grind (arith, nat_tests, is))
      | inr nf ↦
          same_total cards f (λ name card. swap first y (swap first other (name card))) (λ name card. swap first other (swap other y (name card)))
          (λ name card. swap_apart first y other (name card) ne nf (λ is. apart (sym is)))
          ∙ again (λ name. f (swap_after first other name)) other y (grind (arith, nat_tests, ne, mate)) (grind (arith, nat_tests, apart, in_y))
          (rank ∙ sym same)
          ∙ same_total cards f (λ name card. swap first other (name card)) (λ name card. swap first (swap first y other) (name card))
          (λ name card. ap (λ (k : ℕ). swap first k (name card)) (sym (swap_other first y other ne nf)))
    ]
  ]

  step : (x y : ℕ) → has (first ∷ cards) x ≡ true → has (first ∷ cards) y ≡ true → rank_of x ≡ rank_of y →
      total cards (λ name. f (λ card. swap x y (swap first other (name card)))) ≡ total cards (λ name. f (λ card. swap first (swap x y other) (name card)))
  step x y in_x in_y same = elim (cases_eq x y) [
    | inl is ↦ same_total cards f (λ name card. swap x y (swap first other (name card))) (λ name card. swap first (swap x y other) (name card))
        (λ name card. grind (arith, nat_tests, is))
    | inr apart ↦ elim (cases_eq first x) [
      | inl is ↦ subst (λ (k : ℕ). total cards (λ name. f (λ card. swap k y (swap first other (name card)))) ≡
          total cards (λ name. f (λ card. swap first (swap k y other) (name card)))) is
          (from_first y (λ same_y. apart (sym is ∙ same_y)) in_y (sym same ∙ ap rank_of (sym is)))
      | inr ne ↦ elim (cases_eq first y) [
        | inl is ↦
            same_total cards f (λ name card. swap x y (swap first other (name card))) (λ name card. swap first x (swap first other (name card)))
            (λ name card. swap_turned x y (swap first other (name card)) ∙ ap (λ (k : ℕ). swap k x (swap first other (name card))) (sym is))
            ∙ from_first x ne in_x (same ∙ ap rank_of (sym is))
            ∙ same_total cards f (λ name card. swap first (swap first x other) (name card)) (λ name card. swap first (swap x y other) (name card))
            (λ name card. ap (λ (k : ℕ). swap first k (name card)) (ap (λ (k : ℕ). swap k x other) is ∙ swap_turned y x other))
        | inr nf ↦
            same_total cards f (λ name card. swap x y (swap first other (name card))) (λ name card. swap first (swap x y other) (swap x y (name card)))
            (λ name card. swap_behind x y first other (name card) ne nf)
            ∙ again (λ name. f (λ card. swap first (swap x y other) (name card))) x y (grind (arith, nat_tests, ne, in_x)) (grind (arith, nat_tests, nf, in_y))
            same
      ]
    ]
  ]

filter_distinct : (p : ℕ → Bool) (xs : List ℕ) → are_distinct xs ≡ true → are_distinct (filter p xs) ≡ true
filter_distinct p [] distinct = refl
filter_distinct p (x ∷ xs) distinct =
    let parts = distinct_parts x xs distinct in
    let rest = filter_distinct p xs parts.1 in
    let gone : has (filter p xs) x ≡ false = has-filter p xs x ∙ ap (λ (b : Bool). b && p x) parts.0 in
    elim (cases_Bool (p x)) [
      | inl passes ↦ rw passes (and_from _ _ (ap not gone) rest)
      | inr fails ↦ rw fails rest
    ]

pub total_swapped : (cards : List ℕ) → are_distinct cards ≡ true → AreSwapped cards
unfolding total
total_swapped [] distinct f x y in_x in_y same = absurd (both_ways false refl in_x)
total_swapped (first ∷ cards) distinct f x y in_x in_y same =
    sum_agree (λ other. total cards (λ name. f (λ card. swap x y (swap first other (name card))))) (λ other. after (swap x y other))
    (mates first (first ∷ cards))
    (λ other h. let mate = mate_is first other (first ∷ cards) h in
    step first cards (total_swapped cards (distinct_parts first cards distinct).1) f other mate.0 mate.1 x y in_x in_y same)
    ∙ elim (cases_eq (rank_of x) (rank_of first)) [
      | inl is ↦ sum_swapped after x y (mates first (first ∷ cards)) (filter_distinct (λ card. eqb (rank_of card) (rank_of first)) (first ∷ cards) distinct)
          (is_mate x in_x is) (is_mate y in_y (sym same ∙ is))
      | inr ne ↦ sum_agree (λ other. after (swap x y other)) after (mates first (first ∷ cards))
          (λ other h. let mate = mate_is first other (first ∷ cards) h in
          ap after (swap_other x y other (λ is. ne (ap rank_of (sym is) ∙ mate.1)) (λ is. ne (same ∙ ap rank_of (sym is) ∙ mate.1))))
    ]
  where
    after : ℕ → ℕ
    after other = total cards (λ name. f (swap_after first other name))

    is_mate : (card : ℕ) → has (first ∷ cards) card ≡ true → rank_of card ≡ rank_of first → has (mates first (first ∷ cards)) card ≡ true
    is_mate card h is = has-filter (λ other. eqb (rank_of other) (rank_of first)) (first ∷ cards) card
        ∙ and_from _ _ h (eq-eqb (rank_of card) (rank_of first) is)

-- ---- the sums of deals over all renamings
total_both : (cards : List ℕ) (f g : (ℕ → ℕ) → ℕ) → total cards (λ name. f name + g name) ≡ total cards f + total cards g
unfolding total
total_both [] f g = refl
total_both (first ∷ cards) f g =
    sum_agree (λ other. total cards (λ name. f (swap_after first other name) + g (swap_after first other name)))
    (λ other. total cards (λ name. f (swap_after first other name)) + total cards (λ name. g (swap_after first other name)))
    (mates first (first ∷ cards))
    (λ other h. total_both cards (λ name. f (swap_after first other name)) (λ name. g (swap_after first other name)))
    ∙ both (mates first (first ∷ cards))
  where
    both : (xs : List ℕ) →
        sum_by (λ other. total cards (λ name. f (swap_after first other name)) + total cards (λ name. g (swap_after first other name))) xs
        ≡ sum_by (λ other. total cards (λ name. f (swap_after first other name))) xs
        + sum_by (λ other. total cards (λ name. g (swap_after first other name))) xs
    both [] = refl
    both (x ∷ xs) =
        omega (
          arith,
          both xs,
          sum_by-cons (λ other. total cards (λ name. f (swap_after first other name)) + total cards (λ name. g (swap_after first other name))) x xs,
          sum_by-cons (λ other. total cards (λ name. f (swap_after first other name))) x xs,
          sum_by-cons (λ other. total cards (λ name. g (swap_after first other name))) x xs,
        )

pub total_none : (cards : List ℕ) → total cards (λ name. 0) ≡ 0
total_none cards = let none = total_times cards 0 (λ name. 0) in omega (arith, none)

pub total_sums : (cards : List ℕ) (f : (ℕ → ℕ) → Dealt → ℕ) (deals : List Dealt) →
    total cards (λ name. sum_by (f name) deals) ≡ sum_by (λ dealt. total cards (λ name. f name dealt)) deals
total_sums cards f [] = total_none cards
total_sums cards f (dealt ∷ deals) =
    (λ i. total cards (λ name. sum_by-cons (f name) dealt deals i))
    ∙ total_both cards (λ name. f name dealt) (λ name. sum_by (f name) deals)
    ∙ ap (λ (n : ℕ). total cards (λ name. f name dealt) + n) (total_sums cards f deals)
    ∙ sym (sum_by-cons (λ one. total cards (λ name. f name one)) dealt deals)

-- where there is some, there is some of a renaming
pub total_has : {free : List ℕ} (cards : List ℕ) (f : (ℕ → ℕ) → ℕ) → AreFreeCards free cards → 1 ≤ total cards f →
    (name : ℕ → ℕ) × IsRenaming free name × (1 ≤ f name)
unfolding total
total_has {free} [] f are some = ((λ card. card), no_renaming free, some)
total_has {free} (first ∷ cards) f are some =
    let one = some_of (mates first (first ∷ cards)) some in
    let rest = total_has cards (λ name. f (λ card. swap first one.0 (name card))) (λ card h. are card (has_there first card cards h)) one.2 in
    ((λ card. swap first one.0 (rest.0 card)), renamed_twice (step_renamed first one.0 cards are one.1) rest.1, rest.2)
  where
    some_of : (xs : List ℕ) → 1 ≤ sum_by (λ other. total cards (λ name. f (swap_after first other name))) xs →
        (other : ℕ) × (has xs other ≡ true) × (1 ≤ total cards (λ name. f (swap_after first other name)))
    some_of [] more = absurd (omega (arith, more))
    some_of (x ∷ xs) more = here (λ rest. some_of xs rest) (total cards (λ name. f (λ card. swap first x (name card)))) refl
      where
        here : (1 ≤ sum_by (λ other. total cards (λ name. f (swap_after first other name))) xs →
            (other : ℕ) × (has xs other ≡ true) × (1 ≤ total cards (λ name. f (swap_after first other name)))) → (amount : ℕ) →
            total cards (λ name. f (λ card. swap first x (name card))) ≡ amount →
            (other : ℕ) × (has (x ∷ xs) other ≡ true) × (1 ≤ total cards (λ name. f (swap_after first other name)))
        here rest zero none =
            let one = rest (omega (arith, more, none, sum_by-cons (λ other. total cards (λ name. f (swap_after first other name))) x xs)) in
            (one.0, has_there x one.0 xs one.1, one.2)
        here rest (suc amount) is = (x, has_here x xs, omega (arith, is))
