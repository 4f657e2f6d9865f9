-- Each deal becomes one with the lowest cards of its ranks by exchanges of free cards.
use Rattle.std.proofs.Common.{◌≡◌, ◌≢◌, ℕ, zero, suc, ◌<◌, ◌≤◌, Bool, true, false, not, cond, eqb, ltb, ◌&&◌, List, [], ◌∷◌, count_by, sum_by}
use Rattle.std.proofs.Common.{refl, sym, ap, subst, ◌∙◌, inl, inr, arith, ◌⊎◌}
use Rattle.std.specs.List.{list_any}
use Rattle.std.proofs.lemmas.Bool.{both_ways, cases_Bool, cases_eq}
use Rattle.std.proofs.lemmas.Bool.Decides.{nat_tests}
use Rattle.std.proofs.lemmas.List.Sums.{sum_by-cons}
use Rattle.crib_cards.specs.Cards.{pack, rank_of}
use Rattle.crib_cards.specs.Deals.{is_in_pack_order}
use Rattle.crib_cards.specs.Sets.{has}
use Rattle.crib_cards.specs.declared.sides.Dealt.{Dealt}
use Rattle.crib_cards.proofs.Members.{any_found, any_from, has_here, has_there}
use Rattle.crib_problem.specs.Setup.{Setup, IsSetup, IsDealOf}
use Rattle.crib_bound.proofs.Swaps.{IsRenaming, exchanged, sum_agree, sum_fewer, sum_swapped, swap, swap_back}
use Rattle.crib_bound.proofs.RenamedDeals.{free_are, free_cards, pulled, pulled_count, pulled_deal, pulled_has, pulled_order}

-- where one is less, so is the sum
sum_below : (f g : ℕ → ℕ) (xs : List ℕ) (one : ℕ) → ((x : ℕ) → has xs x ≡ true → f x ≤ g x) → has xs one ≡ true → f one < g one →
    sum_by f xs < sum_by g xs
sum_below f g [] one less h below = absurd (both_ways false refl h)
sum_below f g (x ∷ xs) one less h below = elim (cases_eq x one) [
  | inl is ↦
      let fewer = sum_fewer f g xs (λ y in_it. less y (has_there x y xs in_it)) in
      let here : f x < g x = subst (λ (k : ℕ). f k < g k) (sym is) below in
      omega (arith, sum_by-cons f x xs, sum_by-cons g x xs, fewer, here)
  | inr ne ↦
      let rest = sum_below f g xs one (λ y in_it. less y (has_there x y xs in_it)) (grind (arith, nat_tests, ne, h)) below in
      omega (arith, sum_by-cons f x xs, sum_by-cons g x xs, less x (has_here x xs), rest)
]

-- whether a card is free and has a rank
abbrev pub is_free_of : Setup → ℕ → ℕ → Bool
is_free_of problem rank card = has (free_cards problem) card && eqb (rank_of card) rank

-- a hold has each lower free card of the rank of one of its free cards
abbrev pub IsLowest : Setup → List ℕ → Type 0
IsLowest problem hold = (card lower : ℕ) → has hold card ≡ true → has (free_cards problem) card ≡ true → has (free_cards problem) lower ≡ true →
    rank_of lower ≡ rank_of card → lower ≤ card → has hold lower ≡ true

-- a figure of a deal that no exchange changes
abbrev pub IsKept : Setup → (Dealt → ℕ) → Type 0
IsKept problem figure = (dealt : Dealt) (x y : ℕ) → IsDealOf problem dealt → is_in_pack_order dealt ≡ true →
    has (free_cards problem) x ≡ true → has (free_cards problem) y ≡ true → rank_of x ≡ rank_of y → figure (pulled (swap x y) dealt) ≡ figure dealt

-- a deal with the lowest cards of the ranks of another one
pub record Lowered (problem : Setup) (figure : Dealt → ℕ) (dealt : Dealt) : Type 0 where
  pub other : Dealt
  pub deal : IsDealOf problem other
  pub lowest : IsLowest problem other.hold
  pub counts : (rank : ℕ) → count_by (is_free_of problem rank) other.hold ≡ count_by (is_free_of problem rank) dealt.hold
  pub same : figure other ≡ figure dealt

module _ {problem : Setup} (setup : IsSetup problem) where
  abbrev free : List ℕ
  free = free_cards problem

  abbrev height : Dealt → ℕ
  height dealt = sum_by (λ card. cond (has dealt.hold card) card 0) pack

  abbrev is_gap : List ℕ → ℕ → ℕ → Bool
  is_gap hold card lower = has hold card && (not (has hold lower) && (eqb (rank_of lower) (rank_of card) && ltb lower card))

  abbrev has_gap : List ℕ → Bool
  has_gap hold = list_any (λ card. list_any (is_gap hold card) free) free

  lowest_if : (hold : List ℕ) → has_gap hold ≡ false → IsLowest problem hold
  lowest_if hold none card lower held free_card free_lower same low = elim (cases_Bool (has hold lower)) [
    | inl there ↦ there
    | inr out ↦ absurd (both_ways _ none (any_from (λ c. list_any (is_gap hold c) free) free card free_card
        (any_from (is_gap hold card) free lower free_lower (gap (cases_eq lower card) out))))
  ]
    where
      gap : (lower ≡ card) ⊎ (lower ≢ card) → has hold lower ≡ false → is_gap hold card lower ≡ true
      gap (inl is) out = absurd (both_ways _ out (ap (has hold) is ∙ held))
      gap (inr ne) out = grind (arith, nat_tests, held, out, same, low, ne)

  module _ (dealt : Dealt) (deal : IsDealOf problem dealt) (card lower : ℕ) (free_card : has free card ≡ true) (free_lower : has free lower ≡ true)
      (same : rank_of lower ≡ rank_of card) (below : lower < card) (held : has dealt.hold card ≡ true) (out : has dealt.hold lower ≡ false) where
    renaming : IsRenaming free (swap card lower)
    renaming = exchanged card lower free_card free_lower (free_are problem card free_card).1 (free_are problem lower free_lower).1 (sym same)

    height_falls : height (pulled (swap card lower) dealt) < height dealt
    height_falls =
        let is_same = sum_agree (λ k. cond (has (pulled (swap card lower) dealt).hold k) k 0) (λ k. cond (has dealt.hold (swap card lower k)) k 0) pack
        (λ k h. ap (λ (b : Bool). cond b k 0) (pulled_has setup renaming dealt deal k)) in
        let turned = sum_swapped (λ k. cond (has dealt.hold (swap card lower k)) k 0) card lower pack refl (free_are problem card free_card).1
        (free_are problem lower free_lower).1 in
        let back = sum_agree (λ k. cond (has dealt.hold (swap card lower (swap card lower k))) (swap card lower k) 0)
        (λ k. cond (has dealt.hold k) (swap card lower k) 0) pack
        (λ k h. ap (λ (n : ℕ). cond (has dealt.hold n) (swap card lower k) 0) (swap_back card lower k)) in
        let less = sum_below (λ k. cond (has dealt.hold k) (swap card lower k) 0) (λ k. cond (has dealt.hold k) k 0) pack card
        (λ k h. one_less k) (free_are problem card free_card).1 here in
        omega (arith, is_same, turned, back, less)
      where
        one_less : (k : ℕ) → cond (has dealt.hold k) (swap card lower k) 0 ≤ cond (has dealt.hold k) k 0
        one_less k = elim (cases_eq k lower) [
          | inl is ↦ let gone : has dealt.hold k ≡ false = ap (has dealt.hold) is ∙ out in rw gone (omega arith)
          | inr ne ↦ grind (arith, nat_tests, below, ne)
        ]

        here : cond (has dealt.hold card) (swap card lower card) 0 < cond (has dealt.hold card) card 0
        here = rw held (grind (arith, nat_tests, below))

    -- what the exchange leaves
    lowered_from : (figure : Dealt → ℕ) → IsKept problem figure → is_in_pack_order dealt ≡ true →
        Lowered problem figure (pulled (swap card lower) dealt) → Lowered problem figure dealt
    lowered_from figure kept order further = record {
      other = further.other;
      deal = further.deal;
      lowest = further.lowest;
      counts = λ rank. further.counts rank ∙ pulled_count setup renaming dealt deal (is_free_of problem rank)
          (λ k i. renaming.inside k i && eqb (renaming.ranks k i) rank);
      same = further.same ∙ kept dealt card lower deal order free_card free_lower (sym same);
    }

  -- a card and a lower one that could take its place
  record Gap (hold : List ℕ) : Type 0 where
    card : ℕ
    lower : ℕ
    free_card : has free card ≡ true
    free_lower : has free lower ≡ true
    same : rank_of lower ≡ rank_of card
    below : lower < card
    held : has hold card ≡ true
    out : has hold lower ≡ false

  gap_of : (hold : List ℕ) → has_gap hold ≡ true → Gap hold
  gap_of hold some =
      let one = any_found (λ c. list_any (is_gap hold c) free) free some in
      let two = any_found (is_gap hold one.0) free one.2 in
      record {
        card = one.0;
        lower = two.0;
        free_card = one.1;
        free_lower = two.1;
        same = grind (arith, nat_tests, two.2);
        below = grind (arith, nat_tests, two.2);
        held = grind (arith, nat_tests, two.2);
        out = grind (arith, nat_tests, two.2);
      }

  lowered_within : (figure : Dealt → ℕ) → IsKept problem figure → (most : ℕ) (dealt : Dealt) → height dealt ≤ most → IsDealOf problem dealt →
      is_in_pack_order dealt ≡ true → Lowered problem figure dealt
  lowered_within figure kept zero dealt few deal order = elim (cases_Bool (has_gap dealt.hold)) [
    | inl some ↦
        let gap = gap_of dealt.hold some in
        let less = height_falls dealt deal gap.card gap.lower gap.free_card gap.free_lower gap.same gap.below gap.held gap.out in
        absurd (omega (arith, less, few))
    | inr none ↦ record { other = dealt; deal = deal; lowest = lowest_if dealt.hold none; counts = λ rank. refl; same = refl }
  ]
  lowered_within figure kept (suc most) dealt few deal order = elim (cases_Bool (has_gap dealt.hold)) [
    | inl some ↦
        let gap = gap_of dealt.hold some in
        let less = height_falls dealt deal gap.card gap.lower gap.free_card gap.free_lower gap.same gap.below gap.held gap.out in
        lowered_from dealt deal gap.card gap.lower gap.free_card gap.free_lower gap.same gap.below gap.held gap.out figure kept order
        (lowered_within figure kept most (pulled (swap gap.card gap.lower) dealt) (omega (arith, less, few))
        (pulled_deal setup (exchanged gap.card gap.lower gap.free_card gap.free_lower (free_are problem gap.card gap.free_card).1
        (free_are problem gap.lower gap.free_lower).1 (sym gap.same)) dealt deal)
        (pulled_order (swap gap.card gap.lower) dealt))
    | inr none ↦ record { other = dealt; deal = deal; lowest = lowest_if dealt.hold none; counts = λ rank. refl; same = refl }
  ]

  pub lowered : (figure : Dealt → ℕ) → IsKept problem figure → (dealt : Dealt) → IsDealOf problem dealt → is_in_pack_order dealt ≡ true →
      Lowered problem figure dealt
  lowered figure kept dealt deal order = lowered_within figure kept (height dealt) dealt (omega arith) deal order
