-- The laws of tallies: none is beaten if the plan is sure, a tally is unique, and its rows add up.
use Rattle.std.proofs.Common.{◌≡◌, ◌↔◌, ℕ, Bool, true, cond, List, [], ◌∷◌, refl, sym, ap, subst, ◌∙◌, inl, inr, arith}
use Rattle.std.specs.List.{All, sum_by}
use Rattle.std.proofs.lemmas.Bool.{cases_Bool}
use Rattle.std.proofs.lemmas.Bool.Decides.{nat_tests}
use Rattle.std.proofs.lemmas.List.Elements.{All-head, All-tail}
use Rattle.std.proofs.lemmas.List.Sums.{sum_by-cons}
use Rattle.crib_cards.specs.Order.{is_before}
use Rattle.crib_cards.specs.declared.sides.Dealt.{Dealt}
use Rattle.crib_cards.proofs.DictionaryOrder.{not_before_self}
use Rattle.crib_problem.specs.Setup.{Setup}
use Rattle.crib_plan.specs.declared.plan.Node.{Node}
use Rattle.crib_beaten.specs.Beaten.{Beats}
use Rattle.crib_beaten.proofs.UnbeatenPlans.{sure_from, sure_unbeaten}
use Rattle.crib_beaten.specs.declared.tally.RanksTally.{RanksTally}
use Rattle.crib_deals.specs.Exact.{AreExactly, IsIn}
use Rattle.crib_beaten.specs.Tally.{AreFigures, AreInOrder, HasRow, IsRow}
use Rattle.crib_deals.specs.Deals.{ranks_held}
use Rattle.crib_beaten.specs.Laws.{NoneLaw, OneLaw, SumLaw}
use Rattle.crib_deals.proofs.ExactCounts.{exactly_either, exactly_none, exactly_one, exactly_same, exactly_some, exactly_zero, in_all}

pub none_is_sure : NoneLaw
none_is_sure problem plan open_deals beaten rows setup is = (
  λ none. sure_from problem plan setup (exactly_zero (rw none at is.are_beaten)),
  λ sure. exactly_one is.are_beaten (exactly_none (λ dealt order. sure_unbeaten problem plan setup sure dealt)),
)

-- ---- rows in order
not_both : (xs ys : List ℕ) → is_before xs ys ≡ true → is_before ys xs ≡ true → ⊥
not_both [] ys one other = absurd cc
not_both (x ∷ xs) [] one other = absurd cc
not_both (x ∷ xs) (y ∷ ys) one other = grind (arith, nat_tests, one, other, not_both xs ys)

-- a row comes before another
abbrev ComesBefore : RanksTally → RanksTally → Type 0
ComesBefore row later = is_before row.ranks later.ranks ≡ true

-- two lists in order with the same rows are one
same_rows : (rows others : List RanksTally) → AreInOrder rows → AreInOrder others → ((row : RanksTally) → IsIn row rows ↔ IsIn row others) → rows ≡ others
same_rows [] [] order also both = refl
same_rows [] (other ∷ others) order also both = grind (arith, both other)
same_rows (row ∷ rows) [] order also both = grind (arith, both row)
same_rows (row ∷ rows) (other ∷ others) order also both =
    let before = λ (its : RanksTally). in_all (ComesBefore row) its rows order.0 in
    let after = λ (its : RanksTally). in_all (ComesBefore other) its others also.0 in
    let first : row ≡ other = grind (arith, both row, both other, before other, after row, not_both row.ranks other.ranks) in
    let rest = same_rows rows others order.1 also.1 (λ its. grind (arith, both its, not_before_self row.ranks, before its, after its, first)) in
    λ i. first i ∷ rest i

module _ (problem : Setup) (plan : List Node) where
  -- each row of a tally is one of another
  row_in : {open_deals beaten also_open also_beaten : ℕ} {rows others : List RanksTally} → AreFigures problem plan open_deals beaten rows →
      AreFigures problem plan also_open also_beaten others → (row : RanksTally) → IsIn row rows → IsIn row others
  row_in {rows = rows} {others = others} is also row h =
      let row_is = in_all (IsRow problem plan) row rows is.are_rows h in
      let some = exactly_some row_is.some row_is.beaten in
      let has = also.all some.0 some.1 some.2.0 in
      let other = in_all (IsRow problem plan) has.0 others also.are_rows has.1 in
      let same = sym has.2 ∙ some.2.1 in
      let open_same = exactly_one (rw same at other.open_deals) row_is.open_deals in
      let beaten_same = exactly_one (rw same at other.beaten) row_is.beaten in
      subst (λ (r : RanksTally). IsIn r others) (λ i. record { ranks = same i; open_deals = open_same i; beaten = beaten_same i }) has.1

  -- ---- sums
  module _ (test : List ℕ → Bool) where
    abbrev Passes : Dealt → Type 0
    Passes dealt = Beats problem plan dealt × (test (ranks_held dealt) ≡ true)

    abbrev counted : RanksTally → ℕ
    counted row = cond (test row.ranks) row.beaten 0

    one_row : (row : RanksTally) → IsRow problem plan row → AreExactly (λ dealt. Passes dealt × (ranks_held dealt ≡ row.ranks)) (counted row)
    one_row row is = elim (cases_Bool (test row.ranks)) [
      | inl passed ↦ rw passed (exactly_same (λ dealt order. grind (arith, passed)) (λ dealt order. grind arith) is.beaten)
      | inr failed ↦ rw failed (exactly_none (λ dealt order. grind (arith, failed)))
    ]

    sum_rows : (rows : List RanksTally) → All (IsRow problem plan) rows → AreInOrder rows →
        AreExactly (λ dealt. Passes dealt × HasRow rows dealt) (sum_by counted rows)
    sum_rows [] are order = exactly_none (λ dealt _ has. has.1.1)
    sum_rows (row ∷ rows) are order = rw sum_by-cons (exactly_either
        (λ dealt has. elim has.1.1 [
          | inl e ↦ inl (has.0, has.1.2 ∙ ap (λ (r : RanksTally). r.ranks) (sym e))
          | inr h ↦ inr (has.0, (has.1.0, h, has.1.2))
        ]) (λ dealt one. (one.0, (row, inl refl, one.1))) (λ dealt more. (more.0, (more.1.0, inr more.1.1, more.1.2)))
        (λ dealt one more. grind (arith, one.1, more.1.2, not_before_self row.ranks, in_all (ComesBefore row) more.1.0 rows order.0 more.1.1))
        (one_row row (All-head (IsRow problem plan) row rows are)) (sum_rows rows (All-tail (IsRow problem plan) row rows are) order.1))

pub one_tally : OneLaw
one_tally problem plan open_deals beaten rows also_open also_beaten also_rows is also = (
  exactly_one is.are_open also.are_open,
  exactly_one is.are_beaten also.are_beaten,
  same_rows rows also_rows is.in_order also.in_order (λ row. (row_in problem plan is also row, row_in problem plan also is row)),
)

pub rows_add_up : SumLaw
rows_add_up problem plan open_deals beaten rows test is =
    exactly_same (λ dealt _ has. has.0) (λ dealt order passes. (passes, is.all dealt order passes.0)) (sum_rows problem plan test rows is.are_rows is.in_order)
