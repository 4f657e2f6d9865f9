-- The open deals, listed by the numbers of their ranks, and those of them that miss a demand.
use Rattle.std.proofs.Common.{◌≡◌, ℕ, zero, suc, ◌+◌, ◌*◌, ◌/◌, ◌%◌, ◌<◌, ◌≤◌, Bool, true, false, not, ◌&&◌, cond, eqb, List, [], ◌∷◌, ◌++◌}
use Rattle.std.proofs.Common.{length, count_by, get_or, replicate, set, refl}
use Rattle.std.proofs.Common.{Option, Some, None, sym, ap, subst, ◌∙◌, inl, inr, arith}
use Rattle.std.proofs.lemmas.Bool.{and_from, cases_eq, eq-eqb}
use Rattle.std.proofs.lemmas.Bool.Decides.{nat_tests}
use Rattle.std.proofs.lemmas.List.{get_or-set_same, get_or-set_other, take_all}
use Rattle.crib_cards.specs.Deals.{is_in_pack_order}
use Rattle.crib_cards.specs.Order.{are_rising}
use Rattle.crib_cards.specs.Sets.{AreDifferent, rank_counts}
use Rattle.crib_cards.specs.declared.sides.Dealt.{Dealt}
use Rattle.crib_show.specs.Demands.{IsMetByNone}
use Rattle.crib_show.specs.Indices.{index_among}
use Rattle.crib_show.specs.declared.demands.Demand.{Demand}
use Rattle.crib_problem.specs.Setup.{Setup, IsSetup}
use Rattle.crib_know.specs.Hidden.{IsOpen}
use Rattle.crib_know.proofs.Deals.{hold_cards}
use Rattle.crib_sure.specs.Shows.{meets}
use Rattle.crib_sure.proofs.PointsOfDeals.{none_meets}
use Rattle.crib_deals.specs.Choices.{are_in_order, ranks_of_number}
use Rattle.crib_deals.specs.Deals.{Behind, IsMissing, behind_by, ranks_held}
use Rattle.crib_deals.specs.Exact.{IsIn, AreExactly}
use Rattle.crib_deals.proofs.ExactCounts.{exactly_none, exactly_same}
use Rattle.crib_deals.proofs.NumberedDeals.{AreNumbered, all_below, next_below, none_below}
use Rattle.crib_beaten.specs.Beaten.{counts_of}
use Rattle.crib_beaten.proofs.Choices.{AreChoices}
use Rattle.crib_beaten.proofs.HoldNumbers.{ranks_number, ranks_numbered, rising_ranks}
use Rattle.crib_beaten.proofs.TallyRows.{open_numbered}
use Rattle.crib_search.specs.declared.tries.grades.Ladder.{Ladder}
use Rattle.crib_bound.specs.Private.Walks.{AreAdded, AreOpenDeals, AreTables, AreWeighed, IsTableAt}
use Rattle.crib_bound.specs.Private.Walks.{entry_by, entry_of, grade_of, ladder_at, misses_at, rungs_at}
use Rattle.crib_bound.proofs.Amounts.{few_in, part_few, passing, sum_less, sum_same, sum_within}
use Rattle.crib_bound.proofs.GradeCounts.{choice_of_entry, entry_at}

-- the number of the ranks of a deal
abbrev number_of : Dealt → ℕ
number_of dealt = ranks_number (ranks_held dealt)

-- the open deals that have an entry
abbrev HasEntry : Setup → List Ladder → ℕ → Dealt → Type 0
HasEntry problem ladders index dealt = IsOpen problem dealt × (eqb index (entry_of problem ladders dealt) ≡ true)

-- the ladder for four ranks
abbrev pub ladder_for : List Ladder → List ℕ → List Demand
ladder_for ladders ranks = ladder_at ladders (index_among 4 (rank_counts ranks))

-- it has all demands
pub fifteen_rungs : (ladders : List Ladder) (index : ℕ) → length (rungs_at ladders index) ≡ 15 → rungs_at ladders index ≡ ladder_at ladders index
fifteen_rungs ladders index long = sym (take_all 15 (rungs_at ladders index) (omega (arith, long)))

-- the entry of a deal by the ladder for its ranks
entry_for : (problem : Setup) (ladders : List Ladder) (ranks : List ℕ) (dealt : Dealt) → ranks_held dealt ≡ ranks →
    entry_of problem ladders dealt ≡ entry_by problem (ladder_for ladders ranks) dealt
unfolding entry_of
entry_for problem ladders ranks dealt is = ap (λ (held : List ℕ). entry_by problem (ladder_for ladders held) dealt) is

-- the open deals whose ranks have a smaller number, and weights that say how many of them have each entry
pub record AreBelow (problem : Setup) (ladders : List Ladder) (number : ℕ) (weights : List ℕ) : Type 0 where
  pub count : ℕ
  pub exact : AreExactly (λ dealt. IsOpen problem dealt × (number_of dealt < number)) count
  pub weighed : (index : ℕ) → AreExactly (λ dealt. HasEntry problem ladders index dealt × (number_of dealt < number)) (get_or weights index 0)
  pub few : (index : ℕ) → get_or weights index 0 ≤ 16 * 209920 * number

-- a further entry of a list whose entries have a property at their indices
pub set_each : {X : Type 0} (Has : ℕ → X → Type 0) (xs : List X) (at : ℕ) (x none : X) → at < length xs → Has at x →
    ((index : ℕ) → Has index (get_or xs index none)) → (index : ℕ) → Has index (get_or (set xs at x) index none)
set_each Has xs at x none inside has each index = elim (cases_eq index at) [
  | inl same ↦
      subst (λ (one : ℕ). Has one (get_or (set xs at x) one none)) (sym same) (subst (Has at) (sym (get_or-set_same xs at x none inside)) has)
  | inr apart ↦ subst (Has index) (sym (get_or-set_other xs at index x none apart)) (each index)
]

-- ---- lists of nothing
pub zeros : (many place : ℕ) → ◌≡◌ {A = ℕ} (get_or (replicate many 0) place 0) 0
zeros zero place = refl
zeros (suc many) zero = refl
zeros (suc many) (suc place) = zeros many place

pub one_more_none : {X : Type 0} (xs : List (Option X)) → ((index : ℕ) → get_or xs index None ≡ None) → (index : ℕ) →
    get_or (xs ++ None ∷ []) index None ≡ None
one_more_none [] each zero = refl
one_more_none [] each (suc index) = refl
one_more_none (x ∷ xs) each zero = each 0
one_more_none (x ∷ xs) each (suc index) = one_more_none xs (λ place. each (suc place)) index

-- as many deals of a list pass a test as are counted, if they are the same deals
same_count : {Has : Dealt → Type 0} {count : ℕ} (test : Dealt → Bool) (deals : List Dealt) (exact : AreExactly Has count) → AreDifferent deals →
    ((dealt : Dealt) → IsIn dealt deals → test dealt ≡ true → IsIn dealt exact.deals) →
    ((dealt : Dealt) → IsIn dealt exact.deals → IsIn dealt deals × (test dealt ≡ true)) → count ≡ count_by test deals
same_count test deals exact different to from =
    let less = few_in test exact.deals deals exact.different from in
    let more = sum_within (λ dealt. cond (test dealt) 1 0) (λ dealt. 1) deals exact.deals different (λ dealt h. part_few (test dealt) 1)
    (λ dealt h some. to dealt h (passing (test dealt) some)) in
    omega (arith, less, more, sum_same 1 exact.deals, exact.counted)

-- ---- one number more
module _ {problem : Setup} (setup : IsSetup problem) where
  numbered : (ladders : List Ladder) (index : ℕ) → AreNumbered (HasEntry problem ladders index) ranks_held ranks_number ranks_of_number 28561
  numbered ladders index =
      ranks_numbered (HasEntry problem ladders index) (λ dealt is. let agrees = is.0 in (agrees.0.deal.held, hold_cards problem setup dealt agrees.0))

  pub none_listed : {ladders : List Ladder} (many : ℕ) → AreBelow problem ladders 0 (replicate many 0)
  none_listed {ladders} many = record {
    count = 0;
    exact = none_below (open_numbered setup);
    weighed = λ index. rw (zeros many index) (none_below (numbered ladders index));
    few = λ index. omega (arith, zeros many index);
  }

  -- its ranks are not in order
  pub skip_listed : {ladders : List Ladder} {number : ℕ} {weights : List ℕ} → number < 28561 → are_in_order (ranks_of_number number) ≡ false →
      AreBelow problem ladders number weights → AreBelow problem ladders (number + 1) weights
  skip_listed {ladders} {number} {weights} small not_so below = record {
    count = below.count + 0;
    exact = next_below (open_numbered setup) small below.exact (exactly_none (λ dealt order is. unordered dealt order is.1));
    weighed = λ index.
        let same : get_or weights index 0 + 0 ≡ get_or weights index 0 = omega arith in
        subst (AreExactly (λ dealt. HasEntry problem ladders index dealt × (number_of dealt < number + 1))) same
        (next_below (numbered ladders index) small (below.weighed index) (exactly_none (λ dealt order is. unordered dealt order is.1)));
    few = λ index. omega (arith, below.few index);
  }
    where
      unordered : (dealt : Dealt) → is_in_pack_order dealt ≡ true → ranks_held dealt ≡ ranks_of_number number → ⊥
      unordered dealt order is = grind (arith, nat_tests, not_so, is, order, rising_ranks dealt.hold)

  -- it is that of a choice
  pub next_listed : {ladders : List Ladder} {number : ℕ} {weights after : List ℕ} → number < 28561 →
      AreAdded (behind_by problem (ranks_of_number number)) (ladder_for ladders (ranks_of_number number)) weights after →
      AreBelow problem ladders number weights → AreBelow problem ladders (number + 1) after
  next_listed {ladders} {number} small are below = record {
    count = below.count + are.count;
    exact = next_below (open_numbered setup) small below.exact are.exact;
    weighed = λ index.
        let put = are.each index in
        subst (AreExactly (λ dealt. HasEntry problem ladders index dealt × (number_of dealt < number + 1))) (sym put.added)
        (next_below (numbered ladders index) small (below.weighed index)
        (exactly_same
        (λ dealt order is. ((is.0.0, subst (λ n. eqb index n ≡ true) (sym (entry_for problem ladders _ dealt is.0.1)) is.1), is.0.1))
        (λ dealt order is. ((is.0.0, is.1), subst (λ n. eqb index n ≡ true) (entry_for problem ladders _ dealt is.1) is.0.1)) put.exact));
    few = λ index. let put = are.each index in let bound = below.few index in omega (arith, put.added, put.few, bound);
  }

  -- all numbers
  pub all_listed : {ladders : List Ladder} (choices : List (List ℕ)) {weights : List ℕ} {tables : List (Option Behind)} {number : ℕ} →
      number ≡ 28561 → AreChoices number choices →
      AreBelow problem ladders number weights → AreTables problem tables → AreOpenDeals problem ladders choices weights tables
  all_listed {ladders} choices {weights} {number = number} whole are below tabled =
      let exact = all_below (open_numbered setup) (rw whole at below.exact) in record {
        deals = exact.deals;
        weighed = record {
          setup = setup;
          are_open = λ dealt h. ((exact.each dealt).0 h).1;
          counts = λ dealt h.
              let has = (exact.each dealt).0 h in
              let is = (open_numbered setup).are dealt has.1 in
              let few = (open_numbered setup).few dealt has.1 in
              ap (counts_of choices) (choice_of_entry problem dealt ladders)
              ∙ ap (λ (ranks : List ℕ). counts_of choices (index_among 4 (rank_counts ranks))) is
              ∙ are (number_of dealt) (omega (arith, few, whole)) (order dealt has.0 is)
              ∙ ap rank_counts (sym is);
          weighed = λ index.
              let has = all_below (numbered ladders index) (rw whole at (below.weighed index)) in
              same_count (λ dealt. eqb index (entry_of problem ladders dealt)) exact.deals has exact.different
              (λ dealt h is. let one = (exact.each dealt).0 h in (has.each dealt).1 (one.0, (one.1, is)))
              (λ dealt h. let one = (has.each dealt).0 h in let agrees = one.1.0 in ((exact.each dealt).1 (one.0, agrees), one.1.1));
          tabled = tabled;
          all = λ dealt order is. (exact.each dealt).1 (order, is);
        };
        different = exact.different;
        in_order = λ dealt h. ((exact.each dealt).0 h).0;
      }
    where
      rising : (dealt : Dealt) → is_in_pack_order dealt ≡ true → are_rising dealt.hold ≡ true
      rising dealt in_order = grind (arith, in_order)

      order : (dealt : Dealt) → is_in_pack_order dealt ≡ true → ranks_held dealt ≡ ranks_of_number (number_of dealt) →
          are_in_order (ranks_of_number (number_of dealt)) ≡ true
      order dealt in_order is = subst (λ (ranks : List ℕ). are_in_order ranks ≡ true) is (rising_ranks dealt.hold (rising dealt in_order))

-- ---- the deals of a choice that miss a demand
-- as many as are counted pass a test, if each of them does
few_of : {Has : Dealt → Type 0} {count : ℕ} (test : Dealt → Bool) (deals : List Dealt) → AreExactly Has count →
    ((dealt : Dealt) → is_in_pack_order dealt ≡ true → Has dealt → IsIn dealt deals × (test dealt ≡ true)) → count ≤ count_by test deals
few_of test deals exact within =
    let few = few_in test exact.deals deals exact.different (λ dealt h. let has = (exact.each dealt).0 h in within dealt has.0 has.1) in
    omega (arith, few, exact.counted)

module _ {problem : Setup} {ladders : List Ladder} {choices : List (List ℕ)} {weights : List ℕ} {tables : List (Option Behind)} {deals : List Dealt}
    (are : AreWeighed problem ladders choices weights tables deals) (demand : Demand) (index : ℕ) where
  -- all, if none meets it
  pub all_missing : (weight : ℕ) → get_or weights index 0 ≡ weight → IsMetByNone demand →
      weight ≤ count_by (misses_at (entry_of problem ladders) problem demand index) deals
  all_missing weight is none =
      let less = sum_less (λ dealt. cond (eqb index (entry_of problem ladders dealt)) 1 0)
      (λ dealt. cond (misses_at (entry_of problem ladders) problem demand index dealt) 1 0) deals
      (λ dealt h. one_more (eqb index (entry_of problem ladders dealt)) (not (meets problem demand dealt))
      (ap not (none_meets are.setup (are.are_open dealt h).0 demand none))) in
      omega (arith, less, is, are.weighed index)
    where
      one_more : (is misses : Bool) → misses ≡ true → cond is 1 0 ≤ cond (is && misses) 1 0
      one_more true misses e = rw e (omega arith)
      one_more false misses e = omega arith

  -- those of its grade that a table counts
  pub table_missing : (behind : Behind) (missing : ℕ) → get_or tables (index / 16) None ≡ Some behind →
      length (rungs_at ladders (index / 16)) ≡ 15 →
      AreExactly (λ dealt. IsMissing behind demand dealt × (grade_of behind.problem (rungs_at ladders (index / 16)) dealt ≡ index % 16)) missing →
      missing ≤ count_by (misses_at (entry_of problem ladders) problem demand index) deals
  table_missing behind missing is fifteen counted =
      let at : IsTableAt problem (index / 16) (Some behind) = subst (IsTableAt problem (index / 16)) is (are.tabled (index / 16)) in
      few_of (misses_at (entry_of problem ladders) problem demand index) deals (whole fifteen counted) (λ dealt order has.
      let agrees : IsOpen problem dealt = subst (λ (of : Setup). IsOpen of dealt) at.0 has.0.0.0 in (
        are.all dealt order agrees,
        and_from (eqb index (entry_of problem ladders dealt)) (not (meets problem demand dealt))
            (is_here behind.ranks at.1 dealt has.0.0.1 (subst (λ (of : Setup). grade_of of (ladder_at ladders (index / 16)) dealt ≡ index % 16) at.0 has.1))
            (ap not (subst (λ (of : Setup). meets of demand dealt ≡ false) at.0 has.0.1)),
      ))
    where
      whole : length (rungs_at ladders (index / 16)) ≡ 15 →
          AreExactly (λ dealt. IsMissing behind demand dealt × (grade_of behind.problem (rungs_at ladders (index / 16)) dealt ≡ index % 16)) missing →
          AreExactly (λ dealt. IsMissing behind demand dealt × (grade_of behind.problem (ladder_at ladders (index / 16)) dealt ≡ index % 16)) missing
      whole long exact =
          subst (λ (ladder : List Demand). AreExactly (λ dealt. IsMissing behind demand dealt × (grade_of behind.problem ladder dealt ≡ index % 16)) missing)
          (fifteen_rungs ladders (index / 16) long) exact

      is_here : (ranks : List ℕ) → index_among 4 (rank_counts ranks) ≡ index / 16 → (dealt : Dealt) → ranks_held dealt ≡ ranks →
          grade_of problem (ladder_at ladders (index / 16)) dealt ≡ index % 16 → eqb index (entry_of problem ladders dealt) ≡ true
      is_here ranks place dealt is grade =
          eq-eqb index (entry_of problem ladders dealt)
          (entry_at problem dealt ladders place (ap (λ (held : List ℕ). index_among 4 (rank_counts held)) is) grade)
