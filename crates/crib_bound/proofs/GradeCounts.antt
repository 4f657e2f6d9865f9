-- The deals of a grade, counted and added to the weights of their entries.
use Rattle.std.proofs.Common.{◌≡◌, ◌↔◌, ℕ, zero, suc, ◌+◌, ◌-◌, ◌*◌, ◌/◌, ◌%◌, ◌<◌, ◌≤◌, Bool, true, false, not, ◌&&◌, cond, eqb, leb}
use Rattle.std.proofs.Common.{List, [], ◌∷◌, length, get_or, set, refl, sym, ap, ◌∙◌, inl, inr, arith}
use Rattle.std.proofs.lemmas.Bool.{both_ways, cases_eq, cases_lt, eq-eqb, le-leb, leb-true, ne_eqb}
use Rattle.std.proofs.lemmas.Bool.Decides.{nat_tests}
use Rattle.std.proofs.lemmas.List.{length-take, get_or-set_same, get_or-set_other}
use Rattle.crib_cards.specs.Sets.{rank_counts}
use Rattle.crib_cards.specs.declared.sides.Dealt.{Dealt}
use Rattle.crib_show.specs.Demands.{is_met}
use Rattle.crib_show.specs.Indices.{index_among}
use Rattle.crib_show.specs.declared.demands.Demand.{Demand}
use Rattle.crib_problem.specs.Setup.{Setup}
use Rattle.crib_sure.specs.Shows.{meets}
use Rattle.crib_deals.specs.Deals.{Behind, IsBehind, IsMissing, ranks_held}
use Rattle.crib_deals.specs.Exact.{AreExactly}
use Rattle.crib_deals.proofs.ExactCounts.{exactly_either, exactly_none, exactly_rest, exactly_same}
use Rattle.crib_bound.proofs.Amounts.{part_few}
use Rattle.crib_search.specs.declared.tries.grades.Ladder.{Ladder}
use Rattle.crib_bound.specs.Private.Walks.{AreAdded, entry_by, entry_of, grade_of, index_of, ladder_at, rungs_at}

-- ---- grades
module _ (problem : Setup) (dealt : Dealt) where
  -- one more demand of the ladder
  one : (b : Bool) (g : ℕ) → (leb 0 (cond b (1 + g) 0) && b) ≡ leb 1 (cond b (1 + g) 0)
  one true g = grind (arith, nat_tests)
  one false g = grind (arith, nat_tests)

  more : (b m : Bool) (k g : ℕ) → (leb k g && m) ≡ leb (k + 1) g → (leb (suc k) (cond b (1 + g) 0) && m) ≡ leb (suc k + 1) (cond b (1 + g) 0)
  more true m k g e = grind (arith, nat_tests, e)
  more false m k g e = grind (arith, nat_tests)

  pub grade_step : (ladder : List Demand) (k : ℕ) (none : Demand) → k < length ladder →
      (leb k (grade_of problem ladder dealt) && meets problem (get_or ladder k none) dealt) ≡ leb (k + 1) (grade_of problem ladder dealt)
  unfolding grade_of
  grade_step [] k none less = absurd (omega (arith, less))
  grade_step (demand ∷ ladder) zero none less = one (meets problem demand dealt) (grade_of problem ladder dealt)
  grade_step (demand ∷ ladder) (suc k) none less =
      more (meets problem demand dealt) (meets problem (get_or ladder k none) dealt) k (grade_of problem ladder dealt)
      (grade_step ladder k none (omega (arith, less)))

  pub grade_first : (ladder : List Demand) (none : Demand) → 0 < length ladder →
      meets problem (get_or ladder 0 none) dealt ≡ leb 1 (grade_of problem ladder dealt)
  grade_first ladder none less =
      first (leb 0 (grade_of problem ladder dealt)) (le-leb 0 (grade_of problem ladder dealt) (omega arith)) (grade_step ladder 0 none less)
    where
      first : {m one : Bool} (b : Bool) → b ≡ true → (b && m) ≡ one → m ≡ one
      first true is e = e
      first false is e = absurd (both_ways false refl is)

  pub grade_few : (ladder : List Demand) → grade_of problem ladder dealt ≤ length ladder
  unfolding grade_of
  grade_few [] = omega arith
  grade_few (demand ∷ ladder) = by (meets problem demand dealt) (grade_few ladder)
    where
      by : (b : Bool) → grade_of problem ladder dealt ≤ length ladder → cond b (1 + grade_of problem ladder dealt) 0 ≤ length (demand ∷ ladder)
      by true few = omega (arith, few)
      by false few = omega arith

  -- no grade, if it doesn't meet the first demand
  pub no_grade : (ladder : List Demand) (none : Demand) → 0 < length ladder →
      meets problem (get_or ladder 0 none) dealt ≡ false → grade_of problem ladder dealt ≡ 0
  unfolding grade_of
  no_grade [] none less first = refl
  no_grade (demand ∷ ladder) none less first = ap (λ (b : Bool). cond b (1 + grade_of problem ladder dealt) 0) first

  pub choice_of_entry : (ladders : List Ladder) → entry_of problem ladders dealt / 16 ≡ index_of dealt
  unfolding entry_of entry_by
  choice_of_entry ladders =
      let few = grade_few (ladder_at ladders (index_of dealt)) in
      let fifteen = length-take 15 (rungs_at ladders (index_of dealt)) in
      omega (arith, few, fifteen)

  pub entry_at : (ladders : List Ladder) {choice index : ℕ} → choice ≡ index / 16 → index_of dealt ≡ choice →
      grade_of problem (ladder_at ladders (index / 16)) dealt ≡ index % 16 → index ≡ entry_of problem ladders dealt
  unfolding entry_of entry_by
  entry_at ladders {choice} {index} place is grade =
      let same : grade_of problem (ladder_at ladders (index_of dealt)) dealt ≡ grade_of problem (ladder_at ladders (index / 16)) dealt =
      ap (λ n. grade_of problem (ladder_at ladders n) dealt) (is ∙ place) in
      omega (arith, place, is, grade, same)

-- ---- counts
-- one of two tests
met_part : {P : Type 0} (joined met demand : Bool) → joined ≡ (met && demand) → (P × (met ≡ false)) ↔ ((P × (joined ≡ false)) × (not met ≡ true))
met_part joined true demand e = (λ h. absurd (both_ways true h.1 refl), λ h. absurd (both_ways false refl h.1))
met_part joined false demand e = (λ h. ((h.0, e), refl), λ h. (h.0.0, refl))

met_rest : {P : Type 0} (joined met demand : Bool) → joined ≡ (met && demand) →
    ((P × (demand ≡ false)) × (met ≡ true)) ↔ ((P × (joined ≡ false)) × (not met ≡ false))
met_rest joined true demand e = (λ h. ((h.0.0, e ∙ h.0.1), refl), λ h. ((h.0.0, sym e ∙ h.0.1), refl))
met_rest joined false demand e = (λ h. absurd (both_ways false refl h.1), λ h. absurd (both_ways true h.1 refl))

module _ {behind : Behind} (ladder : List Demand) where
  -- those of a grade or a higher one that miss a demand
  pub missing_met : {grade all part : ℕ} (met demand joined : Demand) →
      ((hand crib : ℕ) → is_met joined hand crib ≡ (is_met met hand crib && is_met demand hand crib)) →
      ((problem : Setup) (dealt : Dealt) → meets problem met dealt ≡ leb grade (grade_of problem ladder dealt)) →
      AreExactly (IsMissing behind joined) all → AreExactly (IsMissing behind met) part →
      (part ≤ all) × AreExactly (λ dealt. IsMissing behind demand dealt × (grade ≤ grade_of behind.problem ladder dealt)) (all - part)
  missing_met {grade} met demand joined both is all part =
      let rest = exactly_rest {Rest = λ dealt. IsMissing behind demand dealt × (meets behind.problem met dealt ≡ true)}
      (λ dealt. not (meets behind.problem met dealt))
      (λ dealt order. met_part (meets behind.problem joined dealt) (meets behind.problem met dealt) (meets behind.problem demand dealt) (both _ _))
      (λ dealt order. met_rest (meets behind.problem joined dealt) (meets behind.problem met dealt) (meets behind.problem demand dealt) (both _ _))
      all part in (
        rest.0,
        exactly_same (λ dealt order has. (has.0, leb-true _ _ (sym (is behind.problem dealt) ∙ has.1)))
            (λ dealt order has. (has.0, is behind.problem dealt ∙ le-leb _ _ has.1)) rest.1,
      )

  -- those of a grade
  pub missing_grade : {grade all part : ℕ} (demand : Demand) →
      AreExactly (λ dealt. IsMissing behind demand dealt × (grade ≤ grade_of behind.problem ladder dealt)) all →
      AreExactly (λ dealt. IsMissing behind demand dealt × (grade + 1 ≤ grade_of behind.problem ladder dealt)) part →
      (part ≤ all) × AreExactly (λ dealt. IsMissing behind demand dealt × (grade_of behind.problem ladder dealt ≡ grade)) (all - part)
  missing_grade {grade} demand =
      exactly_rest (λ dealt. leb (grade + 1) (grade_of behind.problem ladder dealt))
      (λ dealt order. (higher grade (grade_of behind.problem ladder dealt)))
      (λ dealt order. (that grade (grade_of behind.problem ladder dealt)))
    where
      higher : {P : Type 0} (k g : ℕ) → (P × (k + 1 ≤ g)) ↔ ((P × (k ≤ g)) × (leb (k + 1) g ≡ true))
      higher k g = (
        λ h. ((h.0, let less = h.1 in omega (arith, less)), let less = h.1 in grind (arith, nat_tests, less)),
        λ h. (h.0.0, let is = h.1 in grind (arith, nat_tests, is)),
      )

      that : {P : Type 0} (k g : ℕ) → (P × (g ≡ k)) ↔ ((P × (k ≤ g)) × (leb (k + 1) g ≡ false))
      that k g = (
        λ h. ((h.0, let same = h.1 in omega (arith, same)), let same = h.1 in grind (arith, nat_tests, same)),
        λ h. (h.0.0, let is = h.1 in let least = h.0.1 in grind (arith, nat_tests, is, least)),
      )

-- ---- weights
-- the deals with four ranks and a lower grade are added to the weights of their entries
pub record AreAddedBelow (behind : Behind) (ladder : List Demand) (grade : ℕ) (before after : List ℕ) : Type 0 where
  pub count : ℕ
  pub exact : AreExactly (λ dealt. IsBehind behind dealt × (grade_of behind.problem ladder dealt < grade)) count
  pub more : ℕ → ℕ
  pub few : (index : ℕ) → more index ≤ grade * 209920
  pub added : (index : ℕ) → get_or after index 0 ≡ get_or before index 0 + more index
  pub each : (index : ℕ) →
      AreExactly (λ dealt. (IsBehind behind dealt × (eqb index (entry_by behind.problem ladder dealt) ≡ true))
      × (grade_of behind.problem ladder dealt < grade)) (more index)

-- the entry of a deal with some ranks
here : (behind : Behind) (ladder : List Demand) (dealt : Dealt) → ranks_held dealt ≡ behind.ranks →
    entry_by behind.problem ladder dealt ≡ 16 * index_among 4 (rank_counts behind.ranks) + grade_of behind.problem ladder dealt
unfolding entry_by
here behind ladder dealt is = ap (λ (ranks : List ℕ). 16 * index_among 4 (rank_counts ranks) + grade_of behind.problem ladder dealt) is

-- what is set at an entry
entry : (after : List ℕ) (at count index : ℕ) → at < length after →
    get_or (set after at (get_or after at 0 + count)) index 0 ≡ get_or after index 0 + cond (eqb index at) count 0
entry after at count index inside = elim (cases_eq index at) [
  | inl same ↦
      let put = get_or-set_same after at (get_or after at 0 + count) 0 inside in
      let new = ap (λ n. get_or (set after at (get_or after at 0 + count)) n 0) same in
      let old = ap (λ n. get_or after n 0) same in
      let is = ap (λ (b : Bool). cond b count 0) (eq-eqb index at same) in
      omega (arith, put, new, old, is)
  | inr apart ↦
      let kept = get_or-set_other after at index (get_or after at 0 + count) 0 apart in
      let is = ap (λ (b : Bool). cond b count 0) (ne_eqb index at apart) in
      omega (arith, kept, is)
]

module _ {behind : Behind} {ladder : List Demand} {before : List ℕ} where
  pub none_added : AreAddedBelow behind ladder 0 before before
  none_added = record {
    count = 0;
    exact = exactly_none (λ dealt order has. let less = has.1 in absurd (omega (arith, less)));
    more = λ index. 0;
    few = λ index. omega arith;
    added = λ index. omega arith;
    each = λ index. exactly_none (λ dealt order has. let less = has.1 in absurd (omega (arith, less)));
  }

  -- those of one more grade
  pub one_added : {after : List ℕ} {grade count : ℕ} (demand : Demand) (at : ℕ) → at ≡ 16 * index_among 4 (rank_counts behind.ranks) + grade →
      at < length after → ((hand crib : ℕ) → is_met demand hand crib ≡ false) → count ≤ 209920 →
      AreExactly (λ dealt. IsMissing behind demand dealt × (grade_of behind.problem ladder dealt ≡ grade)) count →
      AreAddedBelow behind ladder grade before after → AreAddedBelow behind ladder (grade + 1) before (set after at (get_or after at 0 + count))
  one_added {after} {grade} {count} demand at place inside none few exact so_far = record {
    count = so_far.count + count;
    exact = exactly_either (λ dealt has. elim (cases_lt (grade_of behind.problem ladder dealt) grade) [
      | inl less ↦ inl (has.0, less)
      | inr least ↦ inr ((has.0, none _ _), let less = has.1 in omega (arith, less, least))
    ])
        (λ dealt has. (has.0, let less = has.1 in omega (arith, less))) (λ dealt has. (has.0.0, let same = has.1 in omega (arith, same)))
        (λ dealt one other. let less = one.1 in let same = other.1 in absurd (omega (arith, less, same))) so_far.exact exact;
    more = λ index. so_far.more index + cond (eqb index at) count 0;
    few = λ index. let most = part_few (eqb index at) count in let old = so_far.few index in omega (arith, most, old, few);
    added = λ index. let put = entry after at count index inside in let old = so_far.added index in omega (arith, put, old);
    each = λ index.
        exactly_either {Other = λ dealt. (IsMissing behind demand dealt × (grade_of behind.problem ladder dealt ≡ grade)) × (eqb index at ≡ true)}
        (λ dealt has. elim (cases_lt (grade_of behind.problem ladder dealt) grade) [
          | inl less ↦ inl (has.0, less)
          | inr least ↦
              let same : grade_of behind.problem ladder dealt ≡ grade = let less = has.1 in omega (arith, less, least) in
              inr (((has.0.0, none _ _), same), sym (at_entry index dealt has.0.0.1 same) ∙ has.0.1)
        ])
        (λ dealt has. (has.0, let less = has.1 in omega (arith, less)))
        (λ dealt has. ((has.0.0.0, at_entry index dealt has.0.0.0.1 has.0.1 ∙ has.1), let same = has.0.1 in omega (arith, same)))
        (λ dealt one other. let less = one.1 in let same = other.0.1 in absurd (omega (arith, less, same))) (so_far.each index)
        (if_there (eqb index at));
  }
    where
      at_entry : (index : ℕ) (dealt : Dealt) → ranks_held dealt ≡ behind.ranks → grade_of behind.problem ladder dealt ≡ grade →
          eqb index (entry_by behind.problem ladder dealt) ≡ eqb index at
      at_entry index dealt is same = ap (λ n. eqb index n) (let put = here behind ladder dealt is in omega (arith, put, same, place))

      if_there : (there : Bool) →
          AreExactly (λ dealt. (IsMissing behind demand dealt × (grade_of behind.problem ladder dealt ≡ grade)) × (there ≡ true)) (cond there count 0)
      if_there true = exactly_same (λ dealt order has. (has, refl)) (λ dealt order has. has.0) exact
      if_there false = exactly_none (λ dealt order has. both_ways false refl has.1)

  pub all_added : {after : List ℕ} → length ladder ≡ 15 → AreAddedBelow behind ladder 16 before after → AreAdded behind ladder before after
  all_added fifteen added = record {
    count = added.count;
    exact = exactly_same (λ dealt order has. has.0) (λ dealt order has. (has, below dealt)) added.exact;
    each = λ index. record {
      more = added.more index;
      added = added.added index;
      few = let few = added.few index in omega (arith, few);
      exact = exactly_same (λ dealt order has. has.0) (λ dealt order has. (has, below dealt)) (added.each index);
    };
  }
    where
      below : (dealt : Dealt) → grade_of behind.problem ladder dealt < 16
      below dealt = let few = grade_few behind.problem dealt ladder in omega (arith, few, fifteen)

  -- all of them have no grade
  pub whole_added : {count : ℕ} (none : Demand) (at : ℕ) → at ≡ 16 * index_among 4 (rank_counts behind.ranks) → at < length before →
      length ladder ≡ 15 → ((dealt : Dealt) → IsBehind behind dealt → meets behind.problem (get_or ladder 0 none) dealt ≡ false) →
      count ≤ 209920 → AreExactly (IsBehind behind) count →
      AreAdded behind ladder before (set before at (get_or before at 0 + count))
  whole_added {count} none at place inside fifteen first few exact = record {
    count = count;
    exact = exact;
    each = λ index. record {
      more = cond (eqb index at) count 0;
      added = entry before at count index inside;
      few = let most = part_few (eqb index at) count in omega (arith, most, few);
      exact = if_there index (eqb index at) refl;
    };
  }
    where
      at_entry : (index : ℕ) (dealt : Dealt) → IsBehind behind dealt → eqb index (entry_by behind.problem ladder dealt) ≡ eqb index at
      at_entry index dealt has =
          let put = here behind ladder dealt has.1 in
          let zero = no_grade behind.problem dealt ladder none (omega (arith, fifteen)) (first dealt has) in
          ap (λ n. eqb index n) (omega (arith, put, zero, place))

      if_there : (index : ℕ) (there : Bool) → eqb index at ≡ there →
          AreExactly (λ dealt. IsBehind behind dealt × (eqb index (entry_by behind.problem ladder dealt) ≡ true)) (cond there count 0)
      if_there index true e = exactly_same (λ dealt order has. (has, at_entry index dealt has ∙ e)) (λ dealt order has. has.0) exact
      if_there index false e = exactly_none (λ dealt order has. both_ways _ (at_entry index dealt has.0 ∙ e) has.1)
