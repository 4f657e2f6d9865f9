-- Parts that are put at the indices of a list of amounts.
use Rattle.std.proofs.Common.{◌≡◌, ℕ, zero, suc, ◌+◌, ◌<◌, ◌≤◌, Bool, true, false, ◌||◌, cond, eqb, List, length, set, take, get_or}
use Rattle.std.proofs.Common.{refl, sym, ap, ◌∙◌, inl, inr, arith}
use Rattle.std.specs.List.{All}
use Rattle.std.proofs.Math.ListN.{length-set}
use Rattle.std.proofs.lemmas.Bool.{both_ways, cases_eq, eqb-true, eq-eqb, false_from_ne_true}
use Rattle.std.proofs.lemmas.Bool.Decides.{nat_tests}
use Rattle.std.proofs.lemmas.List.{ext_get_or, get_or-set_same, get_or-set_other, take_all, take_more}
use Rattle.std.proofs.lemmas.List.Folds.{list_any_at}
use Rattle.crib_cards.specs.Sets.{has}
use Rattle.crib_cards.proofs.SetLemmas.{has_push}
use Rattle.crib_bound.specs.Private.Walks.{AreReadAt, with_parts}
use Rattle.crib_bound.proofs.Taken.{IsRaised, set_entry}

pub with_length : (indices parts : List ℕ) (places : ℕ) (amounts : List ℕ) → length (with_parts indices parts places amounts) ≡ length amounts
with_length indices parts zero amounts = refl
with_length indices parts (suc places) amounts = length-set _ _ _ ∙ with_length indices parts places amounts

module _ (indices amounts : List ℕ) (small : All (λ index. index < 29120) indices) (long : length amounts ≡ 29120) where
  -- one more place
  with_more : (parts : List ℕ) (places index : ℕ) → places < length indices →
      get_or (with_parts indices parts (suc places) amounts) index 0
      ≡ cond (eqb (get_or indices places 0) index) (get_or parts places 0) (get_or (with_parts indices parts places amounts) index 0)
  with_more parts places index inside =
      let few = small places 0 inside in
      let all = with_length indices parts places amounts in
      set_entry (with_parts indices parts places amounts) (get_or indices places 0) (get_or parts places 0) index (omega (arith, few, all, long))

  -- no greater parts are no greater amounts
  pub with_less : (one other : List ℕ) (places index : ℕ) → places ≤ length indices →
      ((place : ℕ) → place < places → get_or one place 0 ≤ get_or other place 0) →
      get_or (with_parts indices one places amounts) index 0 ≤ get_or (with_parts indices other places amounts) index 0
  with_less one other zero index inside less = omega arith
  with_less one other (suc places) index inside less =
      let rest = with_less one other places index (omega (arith, inside)) (λ place h. less place (omega (arith, h))) in
      let old = with_more one places index (omega (arith, inside)) in
      let new = with_more other places index (omega (arith, inside)) in
      let here = less places (omega arith) in
      either (eqb (get_or indices places 0) index) old new here rest
    where
      either : {old new here there next beyond : ℕ} (is : Bool) → old ≡ cond is here there → new ≡ cond is next beyond → here ≤ next → there ≤ beyond →
          old ≤ new
      either true one other less rest = omega (arith, one, other, less)
      either false one other less rest = omega (arith, one, other, rest)

  -- parts that are no more than what was there
  pub with_few : (parts : List ℕ) (places index : ℕ) → places ≤ length indices →
      ((place : ℕ) → place < length indices → get_or parts place 0 ≤ get_or amounts (get_or indices place 0) 0) →
      get_or (with_parts indices parts places amounts) index 0 ≤ get_or amounts index 0
  with_few parts zero index inside less = omega arith
  with_few parts (suc places) index inside less =
      few (eqb (get_or indices places 0) index) refl (with_more parts places index (omega (arith, inside)))
      (with_few parts places index (omega (arith, inside)) less)
    where
      few : {new below : ℕ} (is : Bool) → eqb (get_or indices places 0) index ≡ is → new ≡ cond is (get_or parts places 0) below →
          below ≤ get_or amounts index 0 → new ≤ get_or amounts index 0
      few true e one rest =
          let same = ap (λ n. get_or amounts n 0) (eqb-true (get_or indices places 0) index e) in
          let here = less places (omega (arith, inside)) in
          omega (arith, one, same, here)
      few false e one rest = omega (arith, one, rest)

  -- at no other index
  pub with_elsewhere : (parts : List ℕ) (places index : ℕ) → places ≤ length indices → has indices index ≡ false →
      get_or (with_parts indices parts places amounts) index 0 ≡ get_or amounts index 0
  with_elsewhere parts zero index inside none = refl
  with_elsewhere parts (suc places) index inside none =
      let here = list_any_at (λ other. eqb other (get_or indices places 0)) indices places 0 (omega (arith, inside)) (eq-eqb _ _ refl) in
      let apart = false_from_ne_true (eqb (get_or indices places 0) index)
      (λ same. both_ways (has indices (get_or indices places 0)) (ap (has indices) (eqb-true _ index same) ∙ none) here) in
      with_more parts places index (omega (arith, inside))
      ∙ ap (λ (b : Bool). cond b (get_or parts places 0) (get_or (with_parts indices parts places amounts) index 0)) apart
      ∙ with_elsewhere parts places index (omega (arith, inside)) none

  -- amounts that were read at the first places, put again
  with_first : (others parts : List ℕ) (places index : ℕ) → places ≤ length indices → AreReadAt indices others parts →
      get_or (with_parts indices parts places amounts) index 0
      ≡ cond (has (take places indices) index) (get_or others index 0) (get_or amounts index 0)
  with_first others parts zero index inside read = refl
  with_first others parts (suc places) index inside read =
      let rest = with_first others parts places index (omega (arith, inside)) read in
      let one = with_more parts places index (omega (arith, inside)) in
      let next : places + 1 ≡ suc places = omega arith in
      let taken = ap (λ (xs : List ℕ). has xs index) (ap (λ n. take n indices) (sym next) ∙ take_more indices places 0 (omega (arith, inside)))
      ∙ has_push (take places indices) (get_or indices places 0) index in
      first (has (take places indices) index) (eqb (get_or indices places 0) index) refl one rest taken
    where
      or_true : (b : Bool) → (b || true) ≡ true
      or_true b = grind (arith, nat_tests)

      or_false : (b : Bool) → (b || false) ≡ b
      or_false b = grind (arith, nat_tests)

      first : {here now : ℕ} {more : Bool} (seen is : Bool) → eqb (get_or indices places 0) index ≡ is → now ≡ cond is (get_or parts places 0) here →
          here ≡ cond seen (get_or others index 0) (get_or amounts index 0) → more ≡ (seen || is) →
          now ≡ cond more (get_or others index 0) (get_or amounts index 0)
      first seen true e one rest taken =
          let same = ap (λ n. get_or others n 0) (eqb-true (get_or indices places 0) index e) in
          one ∙ read places (omega (arith, inside)) ∙ same
          ∙ sym (ap (λ (b : Bool). cond b (get_or others index 0) (get_or amounts index 0)) (taken ∙ or_true seen))
      first seen false e one rest taken =
          one ∙ rest ∙ sym (ap (λ (b : Bool). cond b (get_or others index 0) (get_or amounts index 0)) (taken ∙ or_false seen))

  -- at all places
  pub with_read : (others parts : List ℕ) → length others ≡ 29120 → AreReadAt indices others parts →
      ((index : ℕ) → has indices index ≡ false → get_or amounts index 0 ≡ get_or others index 0) →
      with_parts indices parts (length indices) amounts ≡ others
  with_read others parts other_long read elsewhere =
      ext_get_or 0 _ _ (with_length indices parts (length indices) amounts ∙ long ∙ sym other_long) (λ index low.
      with_first others parts (length indices) index (omega arith) read
      ∙ ap (λ (xs : List ℕ). cond (has xs index) (get_or others index 0) (get_or amounts index 0)) (take_all (length indices) indices (omega arith))
      ∙ whole index (has indices index) refl)
    where
      whole : (index : ℕ) (b : Bool) → has indices index ≡ b → cond b (get_or others index 0) (get_or amounts index 0) ≡ get_or others index 0
      whole index true h = refl
      whole index false h = elsewhere index h

  -- more parts at one place
  pub with_raised : (parts : List ℕ) (place more places index : ℕ) → places ≤ length indices → place < length parts →
      IsRaised (get_or indices place 0) more index (with_parts indices parts places amounts)
      (with_parts indices (set parts place (get_or parts place 0 + more)) places amounts)
  with_raised parts place more zero index inside room = record { no_less = omega arith; few = omega arith }
  with_raised parts place more (suc places) index inside room =
      let rest = with_raised parts place more places index (omega (arith, inside)) room in
      let old = with_more parts places index (omega (arith, inside)) in
      let new = with_more (set parts place (get_or parts place 0 + more)) places index (omega (arith, inside)) in
      let both = raised (eqb (get_or indices places 0) index) (eqb (get_or indices place 0) index) old new rest.no_less rest.few (elim (cases_eq places place) [
        | inl same ↦
            let put = get_or-set_same parts place (get_or parts place 0 + more) 0 room in
            let at = ap (λ n. get_or (set parts place (get_or parts place 0 + more)) n 0) same in
            let was = ap (λ n. get_or parts n 0) same in
            let is = ap (λ n. eqb (get_or indices n 0) index) same in
            λ here.
            let both = ap (λ (b : Bool). cond b more 0) (sym is ∙ here) in
            (omega (arith, put, at, was), omega (arith, put, at, was, both))
        | inr apart ↦
            let kept = get_or-set_other parts place places (get_or parts place 0 + more) 0 apart in
            λ here. (omega (arith, kept), omega (arith, kept))
      ]) in
      record { no_less = both.0; few = both.1 }
    where
      raised : {old new below above one two : ℕ} (b c : Bool) → old ≡ cond b one below → new ≡ cond b two above → below ≤ above →
          above ≤ below + cond c more 0 → (b ≡ true → (one ≤ two) × (two ≤ one + cond c more 0)) → (old ≤ new) × (new ≤ old + cond c more 0)
      raised true c old new less most here = let one = here refl in (omega (arith, old, new, one.0), omega (arith, old, new, one.1))
      raised false c old new less most here = (omega (arith, old, new, less), omega (arith, old, new, most))
