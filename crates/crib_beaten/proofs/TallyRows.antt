-- The tally of the deals whose ranks have a number below another.
use Rattle.std.proofs.Common.{◌≡◌, ◌⊎◌, ◌≤◌, ◌<◌, ℕ, ◌+◌, ◌*◌, ◌^◌, Bool, true, false, cond, ltb, List, [], ◌∷◌, ◌++◌, refl, ap}
use Rattle.std.proofs.Common.{inl, inr, arith}
use Rattle.std.specs.List.{All}
use Rattle.std.proofs.lemmas.Bool.{cases_lt, ltb-true}
use Rattle.std.proofs.lemmas.Bool.Decides.{nat_tests}
use Rattle.std.proofs.lemmas.List.Elements.{All-nil, All-head, All-tail, All-push}
use Rattle.crib_cards.specs.Order.{is_before}
use Rattle.crib_cards.specs.Sets.{rank_counts}
use Rattle.crib_cards.specs.Deals.{is_in_pack_order}
use Rattle.crib_cards.specs.declared.sides.Dealt.{Dealt}
use Rattle.crib_problem.specs.Setup.{Setup, IsSetup}
use Rattle.crib_plan.specs.declared.plan.Node.{Node}
use Rattle.crib_know.proofs.Deals.{hold_cards}
use Rattle.crib_show.specs.declared.demands.Demand.{Demand}
use Rattle.crib_beaten.specs.Beaten.{Beats, Decides}
use Rattle.crib_know.specs.Hidden.{IsOpen}
use Rattle.crib_beaten.proofs.DemandsAfterOpening.{beats_open}
use Rattle.crib_beaten.specs.declared.tally.RanksTally.{RanksTally}
use Rattle.crib_beaten.specs.declared.tally.Tally.{Tally}
use Rattle.crib_deals.specs.Exact.{AreExactly}
use Rattle.crib_beaten.specs.Tally.{AreInOrder, HasRow, IsRow, IsTally}
use Rattle.crib_deals.specs.Deals.{ranks_held}
use Rattle.crib_deals.specs.Deals.{IsBehind, IsMissing, behind_by}
use Rattle.crib_deals.specs.Choices.{are_in_order, ranks_of_number}
use Rattle.crib_beaten.specs.Private.Rows.{AreCounted, IsNoChoice, place, with_figures}
use Rattle.crib_deals.proofs.ExactCounts.{exactly_none, exactly_same, exactly_zero, in_append}
use Rattle.crib_beaten.proofs.HoldNumbers.{number_before, place_few, ranks_number, rising_ranks}
use Rattle.crib_deals.proofs.NumberedDeals.{AreNumbered, none_below, next_below, all_below}
use Rattle.crib_beaten.proofs.HoldNumbers.{ranks_numbered}

-- the number of the ranks that the opponent held
abbrev pub held_number : Dealt → ℕ
held_number dealt = ranks_number (ranks_held dealt)

-- a right row, whose ranks have a smaller number
abbrev pub IsRowBelow : Setup → List Node → ℕ → RanksTally → Type 0
IsRowBelow problem plan number row = IsRow problem plan row × (its : ℕ) × (its < number) × (row.ranks ≡ ranks_of_number its)

-- the rows of the deals whose ranks have a smaller number
pub record AreRowsBelow (problem : Setup) (plan : List Node) (number : ℕ) (rows : List RanksTally) : Type 0 where
  pub right : All (IsRowBelow problem plan number) rows
  pub in_order : AreInOrder rows
  pub all : (dealt : Dealt) → is_in_pack_order dealt ≡ true → Beats problem plan dealt → held_number dealt < number → HasRow rows dealt

-- their tally
pub record IsBelow (problem : Setup) (plan : List Node) (number open_deals beaten : ℕ) (rows : List RanksTally) : Type 0 where
  pub open_deals_are : AreExactly (λ dealt. IsOpen problem dealt × (held_number dealt < number)) open_deals
  pub beaten_are : AreExactly (λ dealt. Beats problem plan dealt × (held_number dealt < number)) beaten
  pub few : (open_deals ≤ 209920 * place number) × (beaten ≤ 209920 * place number)
  pub rows_are : AreRowsBelow problem plan number rows

-- a sum with one more row, which fits
pub sum_fits : {number sum more : ℕ} → number < 28561 → place (number + 1) ≡ place number + 1 → sum ≤ 209920 * place number → more ≤ 209920 →
    (sum + more ≤ 209920 * place (number + 1)) × (sum + more < 2 ^ 32)
sum_fits {number} small next one other =
    (omega (arith, next, one, other), omega (arith, next, one, other, place_few (number + 1) (omega (arith, small))))

abbrev ComesBefore : RanksTally → RanksTally → Type 0
ComesBefore later row = is_before row.ranks later.ranks ≡ true

in_order_push : (rows : List RanksTally) (row : RanksTally) → AreInOrder rows → All (ComesBefore row) rows → AreInOrder (rows ++ row ∷ [])
in_order_push [] row order before = (All-nil _, tt)
in_order_push (first ∷ rows) row order before =
    let next = All-push (λ (later : RanksTally). ComesBefore later first) rows row order.0 (All-head (ComesBefore row) first rows before) in
    (next, in_order_push rows row order.1 (All-tail (ComesBefore row) first rows before))

pub open_numbered : {problem : Setup} → IsSetup problem → AreNumbered (IsOpen problem) ranks_held ranks_number ranks_of_number 28561
open_numbered {problem} setup = ranks_numbered (IsOpen problem) (λ dealt is. (is.0.deal.held, hold_cards problem setup dealt is.0))

module _ {problem : Setup} {plan : List Node} (setup : IsSetup problem) where
  opened : (dealt : Dealt) → Beats problem plan dealt → IsOpen problem dealt
  opened dealt beats = beats_open problem plan dealt setup beats

  beats_numbered : AreNumbered (Beats problem plan) ranks_held ranks_number ranks_of_number 28561
  beats_numbered = ranks_numbered (Beats problem plan) (λ dealt beats. let is = (opened dealt beats).0 in (is.deal.held, hold_cards problem setup dealt is))

  pub none_yet : IsBelow problem plan 0 0 0 []
  none_yet = record {
    open_deals_are = none_below (open_numbered setup);
    beaten_are = none_below beats_numbered;
    few = (omega arith, omega arith);
    rows_are = record { right = All-nil _; in_order = tt; all = λ dealt order beats less. absurd (omega (arith, less)) };
  }

  -- ---- one more number
  module _ {number sum beaten : ℕ} {rows : List RanksTally} (row : RanksTally) (small : number < 28561) (below : IsBelow problem plan number sum beaten rows)
      (ranks : row.ranks ≡ ranks_of_number number) (counted : AreCounted problem plan row.ranks row.open_deals row.beaten) where
    kept : All (IsRowBelow problem plan (number + 1)) rows
    kept = λ k d inside. let is = below.rows_are.right k d inside in let less = is.2 in (is.0, is.1, omega (arith, less), is.3)

    parts : (dealt : Dealt) → Beats problem plan dealt → held_number dealt < number + 1 → (held_number dealt < number) ⊎ (ranks_held dealt ≡ row.ranks)
    parts dealt beats less = grind (arith, less, ranks, beats_numbered.are dealt beats, cases_lt (held_number dealt) number)

    next_rows : (some : Bool) → ltb 0 row.beaten ≡ some → AreRowsBelow problem plan (number + 1) (cond some (rows ++ row ∷ []) rows)
    next_rows false none = record {
      right = kept;
      in_order = below.rows_are.in_order;
      all = λ dealt order beats less. elim (parts dealt beats less) [
        | inl before ↦ below.rows_are.all dealt order beats before
        | inr same ↦
            let zero : row.beaten ≡ 0 = grind (arith, nat_tests, none) in absurd (exactly_zero (rw zero at counted.are_beaten) dealt order (beats, same))
      ];
    }
    next_rows true some = record {
      right = All-push (IsRowBelow problem plan (number + 1)) rows row kept
          (record { open_deals = counted.are_open; beaten = counted.are_beaten; some = ltb-true 0 row.beaten some }, number, omega arith, ranks);
      in_order = in_order_push rows row below.rows_are.in_order
          (λ k d inside. let is = below.rows_are.right k d inside in rw (is.3, ranks) (number_before is.1 number is.2));
      all = λ dealt order beats less. elim (parts dealt beats less) [
        | inl before ↦ let has = below.rows_are.all dealt order beats before in (has.0, (in_append has.0 rows (row ∷ [])).1 (inl has.1), has.2)
        | inr same ↦ (row, (in_append row rows (row ∷ [])).1 (inr (inl refl)), same)
      ];
    }

    pub next_tally : (sum + row.open_deals ≤ 209920 * place (number + 1)) × (beaten + row.beaten ≤ 209920 * place (number + 1)) →
        IsBelow problem plan (number + 1) (sum + row.open_deals) (beaten + row.beaten) (with_figures rows row)
    next_tally few = record {
      open_deals_are = next_below (open_numbered setup) small below.open_deals_are (rw ranks at counted.are_open);
      beaten_are = next_below beats_numbered small below.beaten_are (rw ranks at counted.are_beaten);
      few = few;
      rows_are = next_rows (ltb 0 row.beaten) refl;
    }

  -- all numbers
  pub whole_tally : {A : Type 0} (tally : Tally A) {number : ℕ} → number ≡ 28561 →
      IsBelow problem plan number tally.open_deals tally.beaten tally.rows.items → IsTally problem plan tally
  whole_tally tally whole below = let all = rw whole at below in record {
    are_open = all_below (open_numbered setup) all.open_deals_are;
    are_beaten = all_below beats_numbered all.beaten_are;
    are_rows = λ k d inside. (all.rows_are.right k d inside).0;
    in_order = all.rows_are.in_order;
    all = λ dealt order beats. all.rows_are.all dealt order beats (beats_numbered.few dealt beats);
  }

  -- ---- the deals with some ranks
  module _ {ranks : List ℕ} where
    -- no open deal has them
    pub none_counted : ((dealt : Dealt) → is_in_pack_order dealt ≡ true → IsOpen problem dealt → ranks_held dealt ≡ ranks → ⊥) →
        AreCounted problem plan ranks 0 0
    none_counted none = record {
      are_open = exactly_none (λ dealt order is. none dealt order is.0 is.1);
      are_beaten = exactly_none (λ dealt order is. none dealt order (opened dealt is.0) is.1);
    }

    -- they are not in order
    pub none_ordered : are_in_order ranks ≡ false → AreCounted problem plan ranks 0 0
    none_ordered not_so = none_counted (λ dealt order _ is. grind (arith, nat_tests, not_so, is, order, rising_ranks dealt.hold))

    -- a demand decides
    pub counted_by : {demand : Demand} {open_deals missing : ℕ} → Decides problem plan (rank_counts ranks) demand →
        AreExactly (IsBehind (behind_by problem ranks)) open_deals →
        AreExactly (IsMissing (behind_by problem ranks) demand) missing → AreCounted problem plan ranks open_deals missing
    counted_by decides are_open are_missing = record {
      are_open = are_open;
      are_beaten = exactly_same (λ dealt order is. (decides.missed dealt is.0.0 (ap rank_counts is.0.1) is.1, is.0.1))
          (λ dealt order is. grind (arith, nat_tests, is, opened dealt is.0, decides.met dealt (opened dealt is.0) (ap rank_counts is.1))) are_missing;
    }

  -- ---- ranks that are not in order: no deal has them
  pub skip_tally : {number sum beaten : ℕ} {rows : List RanksTally} → number < 28561 → IsNoChoice number →
      IsBelow problem plan number sum beaten rows → IsBelow problem plan (number + 1) sum beaten rows
  skip_tally {number} {sum} {beaten} small none below =
      let same = none.next in
      let few = below.few in
      let sums : sum + 0 ≡ sum = omega arith in
      let all : beaten + 0 ≡ beaten = omega arith in
      rw (sums, all) at
      (next_tally (record { ranks = ranks_of_number number; open_deals = 0; beaten = 0 }) small below refl (none_ordered none.no_order)
      (omega (arith, few, same), omega (arith, few, same)))
