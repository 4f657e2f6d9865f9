use Rattle.std.proofs.Common.{◌<◌, List, arith, rules, subst, sym}
use Rattle.crib_beaten.specs.declared.tally.RanksTally.{RanksTally}
use Rattle.crib_beaten.specs.Private.Figures.{AreAtMost}
use Rattle.crib_beaten.proofs.RowFigures.{row_fits, so_far_more, so_far_none}
use Rattle.crib_beaten.proofs.rows.best_rows.Goals as goal

pub returns-in_default-clause-sums : goal.returns-in_default-clause-sums
returns-in_default-clause-sums c = rw c.new-rows.ensures (so_far_none c.args.tried.now c.args.tallied.now c.args.beaten c.requires).sums

pub returns-in_default-clause-best_first : goal.returns-in_default-clause-best_first
returns-in_default-clause-best_first c = rw c.new-rows.ensures (so_far_none c.args.tried.now c.args.tallied.now c.args.beaten c.requires).best_first

pub returns-in_default-clause-narrow : goal.returns-in_default-clause-narrow
returns-in_default-clause-narrow c = rw c.new-rows.ensures (so_far_none c.args.tried.now c.args.tallied.now c.args.beaten c.requires).narrow

pub returns-in_default-clause-adds_up : goal.returns-in_default-clause-adds_up
returns-in_default-clause-adds_up c = rw c.new-rows.ensures (so_far_none c.args.tried.now c.args.tallied.now c.args.beaten c.requires).adds_up

pub loop-count-init : goal.loop-count-init
loop-count-init c = record {
  so_far = rw (c.in-Ok.ensures.ok, c.new-left.ensures, c.new-rows.ensures) (so_far_none c.args.tried.now c.args.tallied.now c.args.beaten c.requires);
  count = rw c.new-rows.ensures (omega arith);
}

pub best_of-best-requires : goal.best_of-best-requires
best_of-best-requires c =
    let whole = c.loop-count.invariant.so_far.whole in rw c.as_slice.ensures.value (omega (arith, whole, c.ranges.beaten))

pub overflow_sub-others : goal.overflow_sub-others
overflow_sub-others c =
    row_fits c.loop-count.invariant.so_far c.tidied-row.result (rw c.as_slice-in-loop-count.ensures.value at c.tidied-row.ensures.counted)

pub loop-count-preserved : goal.loop-count-preserved
loop-count-preserved c =
    let so_far = c.loop-count.invariant.so_far in
    let row = c.tidied-row in
    let counted = rw c.as_slice-in-loop-count.ensures.value at row.ensures.counted in
    let some : 0 < row.result.deals = omega (arith, row.ensures.same, c.if-best-eq0.false) in
    let best = subst (λ (left : List RanksTally). AreAtMost c.args.tried.now left c.best_of-best.result.deals) c.as_slice.ensures.value
    c.best_of-best.ensures.most in
    let most = subst (λ (left : List RanksTally). AreAtMost c.args.tried.now left so_far.most) (sym c.as_slice.ensures.value) so_far.at_most in
    let less = c.best_of-best.ensures.bounded so_far.most most in record {
      so_far = rw (c.push.ensures.items, c.leave_out.ensures)
          (so_far_more so_far row.result counted some row.ensures.narrow
          (subst (AreAtMost c.args.tried.now c.loop-count.left.items) (sym row.ensures.same) best)
          (omega (arith, row.ensures.same, less)));
      count = search (rules, arith);
    }
