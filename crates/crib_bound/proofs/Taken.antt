-- What is taken of amounts, counted and given back.
use Rattle.std.proofs.Common.{◌≡◌, ◌⊎◌, ℕ, zero, suc, ◌+◌, ◌-◌, ◌*◌, ◌/◌, ◌<◌, ◌≤◌, min, Bool, true, false, not, ◌&&◌, ◌||◌, cond, eqb, List, [], ◌∷◌}
use Rattle.std.proofs.Common.{length, set, take, sum_by, count_by, get_or, refl, sym, ap, subst, ◌∙◌, inl, inr, arith}
use Rattle.std.proofs.Math.Nat.{div-mul-le_self, min-le_left}
use Rattle.std.proofs.lemmas.Bool.{both_ways, cases_eq, eqb-true, eq-eqb, false_from_ne_true, ne_eqb, true_from_ne_false}
use Rattle.std.proofs.lemmas.List.{get_or-set_same, get_or-set_other, take_more_set}
use Rattle.std.proofs.lemmas.List.Sums.{sum_by-cons}
use Rattle.crib_cards.specs.Sets.{has}
use Rattle.crib_cards.specs.declared.sides.Dealt.{Dealt}
use Rattle.crib_cards.proofs.SetLemmas.{has_push}
use Rattle.crib_show.specs.declared.demands.Demand.{Demand}
use Rattle.crib_sure.specs.Shows.{meets}
use Rattle.crib_bound.specs.declared.walk.Bound.{Bound}
use Rattle.crib_bound.specs.Private.Walks.{AreCounted, AreDealsOf, AreFewer, AreGivenBack, AreLowered, entry_in, held_of, misses_at, taken_of}
use Rattle.crib_bound.proofs.Amounts.{sum_both, sum_less}

-- ---- sums
sum_where : (test : Dealt → Bool) (parts : ℕ) (deals : List Dealt) → sum_by (λ dealt. cond (test dealt) parts 0) deals ≡ count_by test deals * parts
sum_where test parts [] = omega arith
sum_where test parts (dealt ∷ deals) = here (test dealt) refl (sum_where test parts deals)
  where
    two : (b : Bool) (n : ℕ) → (cond b 1 0 + n) * parts ≡ cond b parts 0 + n * parts
    two true n = grind arith
    two false n = grind arith

    here : (b : Bool) → test dealt ≡ b → sum_by (λ other. cond (test other) parts 0) deals ≡ count_by test deals * parts →
        sum_by (λ other. cond (test other) parts 0) (dealt ∷ deals) ≡ count_by test (dealt ∷ deals) * parts
    here b is rest =
        let more = sum_by-cons (λ other. cond (test other) parts 0) dealt deals in
        let counted = ap (λ n. n * parts) (sum_by-cons (λ other. cond (test other) 1 0) dealt deals) in
        let both = two b (count_by test deals) in
        let one = ap (λ (it : Bool). cond it parts 0) is in
        let also = ap (λ (it : Bool). (cond it 1 0 + count_by test deals) * parts) is in
        omega (arith, rest, more, counted, both, one, also)

times_few : {one other : ℕ} (by : ℕ) → one ≤ other → one * by ≤ other * by
times_few by less = grind (arith, less)

-- ---- amounts
pub same_amounts : {indices amounts : List ℕ} → AreFewer indices amounts amounts
same_amounts = record { less = λ index. omega arith; elsewhere = λ index h. refl }

pub fewer_still : {indices before mid after : List ℕ} → AreFewer indices before mid → AreFewer indices mid after → AreFewer indices before after
fewer_still one other = record {
  less = λ index. omega (arith, one.less index, other.less index);
  elsewhere = λ index h. other.elsewhere index h ∙ one.elsewhere index h;
}

-- an entry that is set
pub set_entry : (amounts : List ℕ) (at amount index : ℕ) → at < length amounts →
    get_or (set amounts at amount) index 0 ≡ cond (eqb at index) amount (get_or amounts index 0)
set_entry amounts at amount index inside = elim (cases_eq index at) [
  | inl same ↦
      let put = get_or-set_same amounts at amount 0 inside in
      let new = ap (λ n. get_or (set amounts at amount) n 0) same in
      let is = ap (λ (b : Bool). cond b amount (get_or amounts index 0)) (eq-eqb at index (sym same)) in
      omega (arith, put, new, is)
  | inr apart ↦
      let kept = get_or-set_other amounts at index amount 0 apart in
      let is = ap (λ (b : Bool). cond b amount (get_or amounts index 0)) (ne_eqb at index (λ same. apart (sym same))) in
      omega (arith, kept, is)
]

-- what is taken at an index that is one of some
pub taken_here : (at : Dealt → ℕ) {indices before after : List ℕ} → AreFewer indices before after → (dealt : Dealt) → 1 ≤ taken_of at before after dealt →
    has indices (at dealt) ≡ true
taken_here at {indices} {before} {after} fewer dealt some =
    true_from_ne_false (has indices (at dealt)) (λ none. let same = fewer.elsewhere (at dealt) none in omega (arith, same, some))

-- ---- the deals that miss a demand
pub none_counted : {bound : Bound} {demand : Demand} {indices amounts : List ℕ} → AreCounted bound demand indices amounts amounts 0
none_counted = record { fewer = same_amounts; few = λ deals are. omega arith }

-- all of one more choice is taken
pub more_counted : {bound : Bound} {demand : Demand} {indices before after : List ℕ} {sum more count : ℕ} (at : ℕ) → at < length after →
    has indices at ≡ true → ((deals : List Dealt) → AreDealsOf bound deals → count ≤ count_by (misses_at (entry_in bound) bound.problem.now demand at) deals) →
    more ≤ sum + count * get_or after at 0 → AreCounted bound demand indices before after sum → AreCounted bound demand indices before (set after at 0) more
more_counted {bound} {demand} {indices} {before} {after} {sum} {more} {count} at inside here few enough so_far = record {
  fewer = record {
    less = λ index.
        let put = set_entry after at 0 index inside in
        let part = rest_few (eqb at index) (get_or after index 0) in
        omega (arith, put, part, so_far.fewer.less index);
    elsewhere = λ index none. elim (cases_eq at index) [
      | inl same ↦ absurd (both_ways (has indices at) (subst (λ (one : ℕ). has indices one ≡ false) (sym same) none) here)
      | inr apart ↦ get_or-set_other after at index 0 0 (λ same. apart (sym same)) ∙ so_far.fewer.elsewhere index none
    ];
  };
  few = λ deals are.
      let test = misses_at (entry_in bound) bound.problem.now demand at in
      let old : Dealt → ℕ = λ dealt. cond (not (meets bound.problem.now demand dealt)) (taken_of (entry_in bound) before after dealt) 0 in
      let put : Dealt → ℕ = λ dealt. cond (misses_at (entry_in bound) bound.problem.now demand at dealt) (get_or after at 0) 0 in
      let new : Dealt → ℕ = λ dealt. cond (not (meets bound.problem.now demand dealt)) (taken_of (entry_in bound) before (set after at 0) dealt) 0 in
      let both = sum_both old put deals in
      let all = sum_less (λ dealt. old dealt + put dealt) new deals (λ dealt h.
      parted (eqb at (entry_in bound dealt)) (not (meets bound.problem.now demand dealt)) (entry_in bound dealt) refl) in
      let counted = sum_where test (get_or after at 0) deals in
      let many = times_few (get_or after at 0) (few deals are) in
      omega (arith, both, all, counted, many, enough, so_far.few deals are);
}
  where
    rest_few : (is : Bool) (parts : ℕ) → cond is 0 parts ≤ parts
    rest_few true parts = omega arith
    rest_few false parts = omega arith

    parted : (is missing : Bool) (index : ℕ) → eqb at index ≡ is →
        cond missing (get_or before index 0 - get_or after index 0) 0 + cond (is && missing) (get_or after at 0) 0
        ≤ cond missing (get_or before index 0 - get_or (set after at 0) index 0) 0
    parted true true index e =
        let put = set_entry after at 0 index inside ∙ ap (λ (b : Bool). cond b 0 (get_or after index 0)) e in
        let same = ap (λ n. get_or after n 0) (eqb-true at index e) in
        omega (arith, put, same, so_far.fewer.less index)
    parted false true index e =
        let put = set_entry after at 0 index inside ∙ ap (λ (b : Bool). cond b 0 (get_or after index 0)) e in omega (arith, put)
    parted true false index e = omega arith
    parted false false index e = omega arith

-- ---- giving back
-- an entry is raised by at most so much, and no other
pub record IsRaised (at more index : ℕ) (after new : List ℕ) : Type 0 where
  pub no_less : get_or after index 0 ≤ get_or new index 0
  pub few : get_or new index 0 ≤ get_or after index 0 + cond (eqb at index) more 0

none_taken : (at : Dealt → ℕ) (amounts : List ℕ) (deals : List Dealt) → sum_by (taken_of at amounts amounts) deals ≤ 0
none_taken at amounts [] = omega arith
none_taken at amounts (dealt ∷ deals) =
    let rest = none_taken at amounts deals in let more = sum_by-cons (taken_of at amounts amounts) dealt deals in omega (arith, rest, more)

pub none_back : {bound : Bound} {indices amounts : List ℕ} {most : ℕ} → AreGivenBack bound indices amounts amounts most
none_back {bound = bound} {amounts = amounts} = record {
  more = λ index. omega arith;
  elsewhere = λ index h. refl;
  few = λ deals are. let none = none_taken (entry_in bound) amounts deals in omega (arith, none);
}

-- of what may still be lost no more is lost
pub part_of_rest : (more rest weight free : ℕ) → more ≡ min (rest / weight) free → more * weight ≤ rest
part_of_rest more rest weight free is =
    let least = min-le_left (rest / weight) free in
    let most = div-mul-le_self rest weight in
    let few : more * weight ≤ rest / weight * weight = times_few weight (omega (arith, is, least)) in
    omega (arith, few, most)

-- some of one more choice
pub more_back : {bound : Bound} {indices before after new : List ℕ} {most : ℕ} (at more weight : ℕ) → has indices at ≡ true →
    get_or bound.weights.now at 0 ≡ weight → ((index : ℕ) → IsRaised at more index after new) → AreGivenBack bound indices before after most →
    AreGivenBack bound indices before new (most + more * weight)
more_back {bound} {indices} {before} {after} {new} {most} at more weight here is raised so_far = record {
  more = λ index. omega (arith, so_far.more index, (raised index).no_less);
  elsewhere = λ index none.
      let apart = ap (λ (b : Bool). cond b more 0)
      (false_from_ne_true (eqb at index) (λ same. both_ways (has indices at) (ap (has indices) (eqb-true at index same) ∙ none) here)) in
      let kept = so_far.elsewhere index none in
      omega (arith, apart, kept, (raised index).no_less, (raised index).few);
  few = λ deals are.
      let old = taken_of (entry_in bound) after before in
      let put : Dealt → ℕ = λ dealt. cond (eqb at (entry_in bound dealt)) more 0 in
      let both = sum_both old put deals in
      let all = sum_less (taken_of (entry_in bound) new before) (λ dealt. old dealt + put dealt) deals
      (λ dealt h. omega (arith, (raised (entry_in bound dealt)).few)) in
      let counted = sum_where (λ dealt. eqb at (entry_in bound dealt)) more deals in
      let many = times (are.weighed at) in
      omega (arith, both, all, counted, many, so_far.few deals are);
}
  where
    times : {count : ℕ} → get_or bound.weights.now at 0 ≡ count → count * more ≡ more * weight
    times {count} e = let same : count ≡ weight = omega (arith, e, is) in rw same (grind arith)

-- no more is lost than is given back
pub given_lowered : {bound : Bound} {indices one back new : List ℕ} {lost value least : ℕ} → AreGivenBack bound indices one back lost → lost ≤ value →
    AreLowered bound back new (value - lost) least → AreLowered bound one new value least
given_lowered {bound} {one = one} {back = back} given few low = record {
  mid = low.mid;
  more = λ index. let less = given.more index in let more = low.more index in omega (arith, less, more);
  less = low.less;
  lost = λ deals are.
      let two = sum_both (taken_of (entry_in bound) low.mid back) (taken_of (entry_in bound) back one) deals in
      let all = sum_less (taken_of (entry_in bound) low.mid one)
      (λ dealt. taken_of (entry_in bound) low.mid back dealt + taken_of (entry_in bound) back one dealt) deals (λ dealt h. omega arith) in
      omega (arith, two, all, few, given.few deals are, low.lost deals are);
}

-- what is given back of one more choice is at most what the other has
pub still_most : (old other new : List ℕ) (at more : ℕ) → at < length new → more ≤ get_or other at 0 - get_or new at 0 →
    ((index most : ℕ) → get_or old index 0 ≤ most → get_or other index 0 ≤ most → get_or new index 0 ≤ most) → (index most : ℕ) →
    get_or old index 0 ≤ most → get_or other index 0 ≤ most → get_or (set new at (get_or new at 0 + more)) index 0 ≤ most
still_most old other new at more inside few so_far index most low also = elim (cases_eq at index) [
  | inl same ↦
      let put = get_or-set_same new at (get_or new at 0 + more) 0 inside in
      let here = so_far index most low also in
      let is = ap (λ n. get_or (set new at (get_or new at 0 + more)) n 0) same in
      let old_is = ap (λ n. get_or new n 0) same in
      let other_is = ap (λ n. get_or other n 0) same in
      omega (arith, put, is, old_is, other_is, here, few, also)
  | inr apart ↦
      let kept = get_or-set_other new at index (get_or new at 0 + more) 0 (λ same. apart (sym same)) in
      let here = so_far index most low also in
      omega (arith, kept, here)
]

-- ---- joining
-- one is given back before
pub back_lowered : {bound : Bound} {indices one back new : List ℕ} {most value least : ℕ} → AreGivenBack bound indices one back most →
    ((index : ℕ) → get_or new index 0 ≤ get_or back index 0) → least + most ≤ value → AreLowered bound one new value least
back_lowered {back = back} given below enough = record {
  mid = back;
  more = given.more;
  less = below;
  lost = λ deals are. omega (arith, enough, given.few deals are);
}

-- the other isn't
pub kept_lowered : {bound : Bound} {other new : List ℕ} {least : ℕ} → ((index : ℕ) → get_or new index 0 ≤ get_or other index 0) →
    AreLowered bound other new least least
kept_lowered {bound = bound} {other = other} below = record {
  mid = other;
  more = λ index. omega arith;
  less = below;
  lost = λ deals are. let none = none_taken (entry_in bound) other deals in omega (arith, none);
}

-- ---- holding back
-- what was held back at the places before
held_before : (indices held : List ℕ) (place amount places index : ℕ) → places ≤ place →
    held_of indices (set held place amount) places index ≡ held_of indices held places index
held_before indices held place amount zero index less = refl
held_before indices held place amount (suc places) index less =
    let rest = held_before indices held place amount places index (omega (arith, less)) in
    let kept = get_or-set_other held place places amount 0 (λ same. absurd (omega (arith, same, less))) in
    let here = ap (λ n. cond (eqb (get_or indices places 0) index) n 0) kept in
    omega (arith, rest, here)

-- what is held back at one more place
pub one_held : (indices held amounts : List ℕ) (old : ℕ → ℕ) (place allowed : ℕ) → place < length held → get_or indices place 0 < length amounts →
    allowed ≤ get_or amounts (get_or indices place 0) 0 → ((index : ℕ) → get_or amounts index 0 + held_of indices held place index ≤ old index) →
    (index : ℕ) → get_or (set amounts (get_or indices place 0) allowed) index 0
    + held_of indices (set held place (get_or amounts (get_or indices place 0) 0 - allowed)) (place + 1) index ≤ old index
one_held indices held amounts old place allowed room inside few so_far index =
    let at = get_or indices place 0 in
    let amount = get_or amounts at 0 in
    let put = set_entry amounts at allowed index inside in
    let kept = held_before indices held place (amount - allowed) place index (omega arith) in
    let new = get_or-set_same held place (amount - allowed) 0 room in
    here (eqb at index) refl put kept (ap (λ n. cond (eqb at index) n 0) new)
  where
    now : List ℕ
    now = set held place (get_or amounts (get_or indices place 0) 0 - allowed)

    more : (n : ℕ) → held_of indices now (n + 1) index ≡ held_of indices now n index + cond (eqb (get_or indices n 0) index) (get_or now n 0) 0
    more n = ap (λ k. held_of indices now k index) (let next : n + 1 ≡ suc n = omega arith in next)

    here : (is : Bool) → eqb (get_or indices place 0) index ≡ is →
        get_or (set amounts (get_or indices place 0) allowed) index 0 ≡ cond (eqb (get_or indices place 0) index) allowed (get_or amounts index 0) →
        held_of indices (set held place (get_or amounts (get_or indices place 0) 0 - allowed)) place index ≡ held_of indices held place index →
        cond (eqb (get_or indices place 0) index) (get_or (set held place (get_or amounts (get_or indices place 0) 0 - allowed)) place 0) 0
        ≡ cond (eqb (get_or indices place 0) index) (get_or amounts (get_or indices place 0) 0 - allowed) 0 →
        get_or (set amounts (get_or indices place 0) allowed) index 0
        + held_of indices (set held place (get_or amounts (get_or indices place 0) 0 - allowed)) (place + 1) index ≤ old index
    here true is put kept new =
        let one = put ∙ ap (λ (b : Bool). cond b allowed (get_or amounts index 0)) is in
        let other = new ∙ ap (λ (b : Bool). cond b (get_or amounts (get_or indices place 0) 0 - allowed) 0) is in
        let same = ap (λ n. get_or amounts n 0) (eqb-true (get_or indices place 0) index is) in
        omega (arith, one, other, same, kept, few, so_far index, more place)
    here false is put kept new =
        let one = put ∙ ap (λ (b : Bool). cond b allowed (get_or amounts index 0)) is in
        let other = new ∙ ap (λ (b : Bool). cond b (get_or amounts (get_or indices place 0) 0 - allowed) 0) is in
        omega (arith, one, other, kept, so_far index, more place)

-- ---- lists of indices
-- one more index that is kept
pub one_kept : (test : ℕ → Bool) (left : List ℕ) (count at : ℕ) → count < length left → test at ≡ true →
    ((index : ℕ) → has (take count left) index ≡ true → test index ≡ true) → (index : ℕ) → has (take (count + 1) (set left count at)) index ≡ true →
    test index ≡ true
one_kept test left count at room passes so_far index h =
    elim (or_cases (has (take count left) index) (eqb at index)
    (sym (has_push (take count left) at index) ∙ sym (ap (λ (xs : List ℕ). has xs index) (take_more_set left count at room)) ∙ h)) [
      | inl there ↦ so_far index there
      | inr same ↦ ap test (sym (eqb-true at index same)) ∙ passes
    ]
  where
    or_cases : (one other : Bool) → (one || other) ≡ true → (one ≡ true) ⊎ (other ≡ true)
    or_cases true other either = inl refl
    or_cases false other either = inr either
