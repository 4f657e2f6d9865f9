-- Sums with weights, and the sums over the holds of a kind.
use Rattle.std.proofs.Common.{◌≡◌, ℕ, zero, suc, ◌+◌, ◌*◌, ◌/◌, ◌%◌, ◌<◌, ◌≤◌, min, max, Bool, true, false, cond, eqb, ltb, List, [], ◌∷◌, length, map, set}
use Rattle.std.proofs.Common.{get_or, replicate, slice_index, take}
use Rattle.std.proofs.Common.{refl, sym, ap, subst, ◌∙◌, inl, inr, arith}
use Rattle.std.proofs.lemmas.Bool.{cases_Bool, eqb-true}
use Rattle.std.proofs.lemmas.Bool.Decides.{nat_tests}
use Rattle.std.proofs.lemmas.List.{get_or-set_other, get_or-set_same, length-take-le}
use Rattle.std.proofs.lemmas.List.Sums.{sum_by-cons, sum_by_more}
use Rattle.crib_cards.specs.Cards.{rank_of}
use Rattle.crib_cards.specs.Sets.{set_without_all}
use Rattle.crib_cards.proofs.SetCounts.{count_cons}
use Rattle.crib_know.proofs.CardLists.{one_if}
use Rattle.crib_deals.specs.declared.sums.Sums.{Sums}
use Rattle.crib_deals.specs.declared.throws.Cribs.{Cribs}
use Rattle.crib_deals.specs.Private.Sums.{AreHeld, AreSmall, AreSums, card_sum, left_below, no_sums, of_suits, pair_sum, partners_at, sum_where, weigh_from}
use Rattle.crib_deals.specs.Tables.{suit_points}
use Rattle.crib_deals.specs.Throws.{AreThrowsCounted, is_below, partners, passing_throws}
use Rattle.crib_deals.specs.Private.Sums.{IsHeld}
use Rattle.crib_deals.proofs.ThrowCounts.{throws_with}
use Rattle.crib_deals.proofs.ThrowCounts.{left_by_parts}

-- ---- weights
pub weigh_set : (first : ℕ) (weight : ℕ → ℕ) (numbers : List ℕ) (i : ℕ) → i < length numbers →
    weigh_from first weight (set numbers i (get_or numbers i 0 + 1)) ≡ weigh_from first weight numbers + weight (first + i)
weigh_set first weight [] i less = absurd (omega (arith, less))
weigh_set first weight (n ∷ numbers) zero less = let same : first + 0 ≡ first = omega arith in grind (arith, ap weight same)
weigh_set first weight (n ∷ numbers) (suc i) less =
    let rest = weigh_set (first + 1) weight numbers i (omega (arith, less)) in
    let same : first + 1 + i ≡ first + suc i = omega arith in omega (arith, rest, ap weight same)

pub cell_few : (first : ℕ) (numbers : List ℕ) (i : ℕ) → get_or numbers i 0 ≤ weigh_from first (λ i. 1) numbers
cell_few first [] i = omega arith
cell_few first (n ∷ numbers) zero = omega arith
cell_few first (n ∷ numbers) (suc i) = omega (arith, cell_few (first + 1) numbers i)

take_none : (i : ℕ) → take {A = ℕ} i [] ≡ []
take_none zero = refl
take_none (suc i) = refl

pub weigh_more : (first : ℕ) (weight : ℕ → ℕ) (numbers : List ℕ) (i : ℕ) →
    weigh_from first weight (take (i + 1) numbers) ≡ weigh_from first weight (take i numbers) + get_or numbers i 0 * weight (first + i)
weigh_more first weight [] i = rw (take_none i, take_none (i + 1)) (omega arith)
weigh_more first weight (n ∷ numbers) zero = let same : first + 0 ≡ first = omega arith in grind (arith, ap weight same)
weigh_more first weight (n ∷ numbers) (suc i) =
    let rest = weigh_more (first + 1) weight numbers i in
    let same : first + 1 + i ≡ first + suc i = omega arith in grind (arith, rest, ap weight same)

-- from the first index on
pub one_set : (weight : ℕ → ℕ) (numbers : List ℕ) (i : ℕ) → i < length numbers →
    weigh_from 0 weight (set numbers i (get_or numbers i 0 + 1)) ≡ weigh_from 0 weight numbers + weight i
one_set weight numbers i less = let same : 0 + i ≡ i = omega arith in omega (arith, weigh_set 0 weight numbers i less, ap weight same)

pub one_more : (weight : ℕ → ℕ) (numbers : List ℕ) (i : ℕ) →
    weigh_from 0 weight (take (i + 1) numbers) ≡ weigh_from 0 weight (take i numbers) + get_or numbers i 0 * weight i
one_more weight numbers i =
    let same : 0 + i ≡ i = omega arith in weigh_more 0 weight numbers i ∙ (λ j. weigh_from 0 weight (take i numbers) + get_or numbers i 0 * weight (same j))

pub part_few : (first i : ℕ) (numbers : List ℕ) → weigh_from first (λ i. 1) (take i numbers) ≤ weigh_from first (λ i. 1) numbers
part_few first zero numbers = omega arith
part_few first (suc i) [] = omega arith
part_few first (suc i) (n ∷ numbers) = omega (arith, part_few (first + 1) i numbers)

pub zeros : (n i : ℕ) → slice_index (replicate n 0) i ≡ 0
zeros zero i = refl
zeros (suc n) zero = refl
zeros (suc n) (suc i) = zeros n i

weigh_none : (first limit : ℕ) (numbers : List ℕ) → limit ≤ first → weigh_from first (λ i. cond (ltb i limit) 1 0) numbers ≡ 0
weigh_none first limit [] past = refl
weigh_none first limit (n ∷ numbers) past = grind (arith, nat_tests, past, weigh_none (first + 1) limit numbers (omega (arith, past)))

-- the numbers with a smaller index
pub weigh_taken : (first limit count : ℕ) (numbers : List ℕ) → limit ≡ first + count →
    weigh_from first (λ i. cond (ltb i limit) 1 0) numbers ≡ weigh_from first (λ i. 1) (take count numbers)
weigh_taken first limit zero numbers is = weigh_none first limit numbers (omega (arith, is))
weigh_taken first limit (suc count) [] is = refl
weigh_taken first limit (suc count) (n ∷ numbers) is = grind (arith, nat_tests, is, weigh_taken (first + 1) limit count numbers (omega (arith, is)))

-- ---- the sums over the holds of a kind
pub where_more : (kind : List ℕ → Bool) (value : List ℕ → ℕ) (holds : List (List ℕ)) (i : ℕ) (hold : List ℕ) (of_kind : Bool) → i < length holds →
    hold ≡ get_or holds i hold → kind hold ≡ of_kind →
    sum_where kind value (take (i + 1) holds) ≡ sum_where kind value (take i holds) + cond of_kind (value hold) 0
where_more kind value holds i hold of_kind less is same =
    omega (
      arith,
      sum_by_more (λ h. cond (kind h) (value h) 0) holds i hold less,
      ap (λ h. cond (kind h) (value h) 0) is,
      ap (λ (b : Bool). cond b (value hold) 0) same,
    )

-- none, if no hold is of the kind
pub none_where : (kind : List ℕ → Bool) (value : List ℕ → ℕ) (holds : List (List ℕ)) → sum_where kind (λ hold. 1) holds ≡ 0 →
    sum_where kind value holds ≡ 0
none_where kind value [] none = refl
none_where kind value (hold ∷ holds) none = one (none_where kind value holds) (kind hold) refl
  where
    one : (sum_where kind (λ hold. 1) holds ≡ 0 → sum_where kind value holds ≡ 0) → (of_kind : Bool) → kind hold ≡ of_kind →
        sum_where kind value (hold ∷ holds) ≡ 0
    one rest of_kind is =
        let count = sum_by-cons (λ h. cond (kind h) 1 0) hold holds ∙ ap (λ (b : Bool). cond b 1 0 + sum_where kind (λ hold. 1) holds) is in
        let sum = sum_by-cons (λ h. cond (kind h) (value h) 0) hold holds ∙ ap (λ (b : Bool). cond b (value hold) 0 + sum_where kind value holds) is in
        grind (arith, nat_tests, none, count, sum, rest)

module _ {points : List ℕ} (kind : List ℕ → Bool) (holds : List (List ℕ)) (i : ℕ) {sums : Sums} (hold : List ℕ) (less : i < length holds)
    (is : hold ≡ get_or holds i hold) (so_far : AreSums points kind (take i holds) sums) where
  pub sums_other : kind hold ≡ false → AreSums points kind (take (i + 1) holds) sums
  sums_other fails = record {
    count = omega (arith, so_far.count, where_more kind (λ h. 1) holds i hold false less is fails);
    cards = λ weight. omega (arith, so_far.cards weight, where_more kind (card_sum weight) holds i hold false less is fails);
    pairs = λ weight. omega (arith, so_far.pairs weight, where_more kind (pair_sum weight points) holds i hold false less is fails);
  }

  pub sums_same : kind hold ≡ true → (added : Sums) → added.count ≡ sums.count + 1 →
      ((weight : ℕ → ℕ) → weigh_from 0 weight added.cards ≡ weigh_from 0 weight sums.cards + card_sum weight hold) →
      ((weight : ℕ → ℕ) → weigh_from 0 weight added.pairs ≡ weigh_from 0 weight sums.pairs + pair_sum weight points hold) →
      AreSums points kind (take (i + 1) holds) added
  sums_same passes added count cards pairs = record {
    count = omega (arith, so_far.count, count, where_more kind (λ h. 1) holds i hold true less is passes);
    cards = λ weight. omega (arith, so_far.cards weight, cards weight, where_more kind (card_sum weight) holds i hold true less is passes);
    pairs = λ weight. omega (arith, so_far.pairs weight, pairs weight, where_more kind (pair_sum weight points) holds i hold true less is passes);
  }

-- holds added up by the points of their suits
where_few : (kind : List ℕ → Bool) (holds : List (List ℕ)) → sum_where kind (λ hold. 1) holds ≤ length holds
where_few kind [] = omega arith
where_few kind (hold ∷ holds) = let one = sum_by-cons (λ h. cond (kind h) 1 0) hold holds in grind (arith, nat_tests, one, where_few kind holds)

pub count_few : {points : List ℕ} (kind : List ℕ → Bool) (holds : List (List ℕ)) {sums : Sums} (i : ℕ) → i < length holds → length holds ≤ 256 →
    AreSums points kind (take i holds) sums → sums.count < 256
count_few kind holds i less small are =
    let few = where_few kind (take i holds) in
    let long = length-take-le i holds (omega (arith, less)) in omega (arith, small, less, are.count, few, long)

module _ (points : List ℕ) (starter : ℕ) (holds : List (List ℕ)) (i : ℕ) (hold : List ℕ) (less : i < length holds) (is : hold ≡ get_or holds i hold)
    (sums : List Sums) (added : Sums) (here : ℕ) (inside : here < length sums) (points_are : here ≡ suit_points hold starter)
    (count : added.count ≡ (get_or sums here no_sums).count + 1)
    (cards : (weight : ℕ → ℕ) → weigh_from 0 weight added.cards ≡ weigh_from 0 weight (get_or sums here no_sums).cards + card_sum weight hold)
    (pairs : (weight : ℕ → ℕ) → weigh_from 0 weight added.pairs ≡ weigh_from 0 weight (get_or sums here no_sums).pairs + pair_sum weight points hold)
    (suits : ℕ) where
  pub next_sums : AreSums points (of_suits starter suits) (take i holds) (get_or sums suits no_sums) →
      AreSums points (of_suits starter suits) (take (i + 1) holds) (get_or (set sums here added) suits no_sums)
  next_sums so_far = elim (cases_Bool (eqb here suits)) [
    | inl same ↦ let e : here ≡ suits = eqb-true here suits same in
        subst (λ n. AreSums points (of_suits starter n) (take (i + 1) holds) (get_or (set sums here added) n no_sums)) e
        (subst (AreSums points (of_suits starter here) (take (i + 1) holds)) (sym (get_or-set_same sums here added no_sums inside))
        (sums_same (of_suits starter here) holds i hold less is (subst (λ n. AreSums points (of_suits starter n) (take i holds) (get_or sums n no_sums))
        (sym e) so_far)
        (grind (arith, nat_tests, points_are)) added count cards pairs))
    | inr other ↦ subst (AreSums points (of_suits starter suits) (take (i + 1) holds))
        (sym (get_or-set_other sums here suits added no_sums (λ e. grind (arith, nat_tests, other, e))))
        (sums_other (of_suits starter suits) holds i hold less is so_far (grind (arith, nat_tests, points_are, other)))
  ]

  pub next_small : (get_or sums here no_sums).count < 256 → AreSmall (get_or sums here no_sums) → AreSmall (get_or sums suits no_sums) →
      AreSmall (get_or (set sums here added) suits no_sums)
  next_small few before so_far = elim (cases_Bool (eqb here suits)) [
    | inl same ↦ let e : here ≡ suits = eqb-true here suits same in
        subst (λ n. AreSmall (get_or (set sums here added) n no_sums)) e
        (subst AreSmall (sym (get_or-set_same sums here added no_sums inside)) (record {
          count = omega (arith, few, count);
          cards = let more = cards (λ index. 1) in omega (arith, more, before.cards, count);
          pairs = let more = pairs (λ points. 1) in omega (arith, more, before.pairs, count);
        }))
    | inr other ↦ subst AreSmall (sym (get_or-set_other sums here suits added no_sums (λ e. grind (arith, nat_tests, other, e)))) so_far
  ]

-- ---- the throws that the holds leave
module _ (cribs : Cribs) (ranks : List ℕ) (limit : ℕ) where
  abbrev points : List ℕ
  points = cribs.points

  abbrev below : ℕ → ℕ
  below p = cond (ltb p limit) 1 0

  abbrev with : ℕ → ℕ
  with card = partners (is_below points limit) card cribs.unseen

  pair_is : (a b : ℕ) → a < b → below (slice_index points (52 * a + b)) ≡ one_if (is_below points limit (a ∷ b ∷ []))
  pair_is a b less = let low : min a b ≡ a = omega (arith, less) in let high : max a b ≡ b = omega (arith, less) in
      rw (low, high) (grind (arith, nat_tests, less))

  pairs_are : (hold : List ℕ) → IsHeld cribs.unseen hold → pair_sum below points hold ≡ passing_throws (is_below points limit) hold
  pairs_are (a ∷ b ∷ c ∷ d ∷ []) is =
      let rising : (a < b) × (b < c) × (c < d) = grind (arith, nat_tests, is.rising) in
      let more : (a < c) × (a < d) × (b < d) = (omega (arith, rising), omega (arith, rising), omega (arith, rising)) in
      omega (
        arith,
        pair_is a b rising.0,
        pair_is a c more.0,
        pair_is a d more.1,
        pair_is b c rising.1,
        pair_is b d more.2,
        pair_is c d rising.2,
        count_cons (λ o. is_below points limit (a ∷ o ∷ [])) b (c ∷ d ∷ []),
        count_cons (λ o. is_below points limit (a ∷ o ∷ [])) c (d ∷ []),
        count_cons (λ o. is_below points limit (a ∷ o ∷ [])) d [],
        count_cons (λ o. is_below points limit (b ∷ o ∷ [])) c (d ∷ []),
        count_cons (λ o. is_below points limit (b ∷ o ∷ [])) d [],
        count_cons (λ o. is_below points limit (c ∷ o ∷ [])) d [],
      )
  pairs_are hold is = absurd (omega (arith, is.four))

  card_is : (at card rank : ℕ) → rank_of card ≡ rank → slice_index ranks at ≡ rank → partners_at cribs ranks limit (4 * at + card % 4) ≡ with card
  card_is at card rank its of_at =
      let index : (4 * at + card % 4) / 4 ≡ at = omega arith in
      let suit : (4 * at + card % 4) % 4 ≡ card % 4 = omega arith in
      rw (index, suit, of_at, sym its) (ap with (omega arith))

  cards_are : (hold : List ℕ) → IsHeld cribs.unseen hold → map rank_of hold ≡ ranks →
      card_sum (partners_at cribs ranks limit) hold ≡ throws_with (is_below points limit) hold cribs.unseen
  cards_are (a ∷ b ∷ c ∷ d ∷ []) is same =
      let at = λ (i : ℕ). ap (λ (listed : List ℕ). slice_index listed i) (sym same) in
      omega (
        arith,
        card_is 0 a (rank_of a) refl (at 0),
        card_is 1 b (rank_of b) refl (at 1),
        card_is 2 c (rank_of c) refl (at 2),
        card_is 3 d (rank_of d) refl (at 3),
        sum_by-cons with a (b ∷ c ∷ d ∷ []),
        sum_by-cons with b (c ∷ d ∷ []),
        sum_by-cons with c (d ∷ []),
        sum_by-cons with d [],
      )
  cards_are hold is same = absurd (omega (arith, is.four))

  abbrev all : ℕ
  all = passing_throws (is_below points limit) cribs.unseen

  joined : (of_kind : Bool) (left_here card_here pair_here lefts cards ones pairs : ℕ) {left card one pair : ℕ} → left ≡ cond of_kind left_here 0 + lefts →
      card ≡ cond of_kind card_here 0 + cards → one ≡ cond of_kind 1 0 + ones → pair ≡ cond of_kind pair_here 0 + pairs →
      lefts + cards ≡ ones * all + pairs → left_here + card_here ≡ all + pair_here → left + card ≡ one * all + pair
  joined true lh ch ph l c n p a b d e rest here = rw (a, b, d, e) (grind (arith, rest, here))
  joined false lh ch ph l c n p a b d e rest here = rw (a, b, d, e) (grind (arith, rest))

  parts : (kind : List ℕ → Bool) (holds : List (List ℕ)) → AreHeld cribs.unseen ranks holds →
      left_below cribs kind limit holds + sum_where kind (card_sum (partners_at cribs ranks limit)) holds
      ≡ sum_where kind (λ hold. 1) holds * all + sum_where kind (pair_sum below points) holds
  parts kind [] are = omega arith
  parts kind (hold ∷ holds) are = one (parts kind holds are.1) (kind hold) refl
    where
      one : left_below cribs kind limit holds + sum_where kind (card_sum (partners_at cribs ranks limit)) holds
          ≡ sum_where kind (λ hold. 1) holds * all + sum_where kind (pair_sum below points) holds → (of_kind : Bool) → kind hold ≡ of_kind →
          left_below cribs kind limit (hold ∷ holds) + sum_where kind (card_sum (partners_at cribs ranks limit)) (hold ∷ holds)
          ≡ sum_where kind (λ hold. 1) (hold ∷ holds) * all + sum_where kind (pair_sum below points) (hold ∷ holds)
      one rest of_kind is =
          let first = λ (value : List ℕ → ℕ). sum_by-cons (λ h. cond (kind h) (value h) 0) hold holds
          ∙ ap (λ (b : Bool). cond b (value hold) 0 + sum_where kind value holds) is in
          joined of_kind _ _ _ _ _ _ _ (first (λ h. passing_throws (is_below points limit) (set_without_all cribs.unseen h)))
          (first (card_sum (partners_at cribs ranks limit))) (first (λ h. 1)) (first (pair_sum below points)) rest
          (rw (← pairs_are hold are.0.0, ← cards_are hold are.0.0 are.0.1) at (left_by_parts points limit cribs.unseen hold are.0.0))

  pub left_sums : (kind : List ℕ → Bool) (holds : List (List ℕ)) (sums : Sums) → AreThrowsCounted cribs → limit ≤ 30 → AreHeld cribs.unseen ranks holds →
      AreSums points kind holds sums →
      left_below cribs kind limit holds + weigh_from 0 (partners_at cribs ranks limit) sums.cards
      ≡ sums.count * slice_index cribs.below limit + weigh_from 0 (λ i. 1) (take limit sums.pairs)
  left_sums kind holds sums counted few are so_far =
      rw (
        counted.below limit few,
        so_far.count,
        so_far.cards (partners_at cribs ranks limit),
        sym (weigh_taken 0 limit limit sums.pairs (omega arith)),
        so_far.pairs below,
      )
      (parts kind holds are)
