use Rattle.std.proofs.Common.{rules, ◌∙◌, arith}
use Rattle.crib_beaten.specs.Private.Rows.{place}
use Rattle.crib_beaten.proofs.TallyRows.{next_tally, none_yet, skip_tally, sum_fits, whole_tally}
use Rattle.crib_beaten.proofs.tally.tally_of.Goals as goal

pub loop-number-init : goal.loop-number-init
unfolding place
loop-number-init g c = record { index = search rules; below = rw c.new.ensures.items (none_yet c.of-deals.ensures.setup) }

pub add-requires-clause-open_deals : goal.add-requires-clause-open_deals
add-requires-clause-open_deals g c =
    (sum_fits (omega arith) c.in-Some.ensures.choice.next c.loop-number.invariant.below.few.0 c.figures_at.ensures.few.0).1

pub add-requires-clause-beaten : goal.add-requires-clause-beaten
add-requires-clause-beaten g c =
    let few = c.figures_at.ensures.few in (sum_fits (omega arith) c.in-Some.ensures.choice.next c.loop-number.invariant.below.few.1 (omega (arith, few))).1

pub loop-number-preserved-in_default : goal.loop-number-preserved-in_default
loop-number-preserved-in_default g c = let none = c.in_default.ensures.none in record {
  index = omega (arith, c.loop-number.invariant.index, none.next);
  below = skip_tally c.of-deals.ensures.setup (omega arith) none c.loop-number.invariant.below;
}

pub loop-number-preserved : goal.loop-number-preserved
loop-number-preserved g c =
    let sums = c.in_ok-add.ensures in
    let few = c.figures_at.ensures.few in
    let here = c.loop-number.invariant in
    let choice = c.in-Some.ensures.choice in
    let deals = c.of-deals.ensures in
    let is = deals.decided c.loop-number.number (omega arith) choice.order in record {
      index = omega (arith, here.index, choice.next);
      below = rw (sums.open_deals, sums.beaten, sums.rows)
          (next_tally deals.setup c.figures_at.result (omega arith) here.below (c.figures_at.ensures.ranks ∙ choice.numbered)
          (rw c.figures_at.ensures.ranks (c.figures_at.ensures.exact c.args.problem.now c.args.plan.now deals.setup deals.same_problem
          (rw (here.index, choice.numbered) is)))
          ((sum_fits (omega arith) choice.next here.below.few.0 few.0).0, (sum_fits (omega arith) choice.next here.below.few.1 (omega (arith, few))).0));
    }

pub returns : goal.returns
returns g c = whole_tally c.of-deals.ensures.setup c.loop-number.tally (omega (arith, c.loop-number.auto.number-end, c.loop-number-test.false))
    c.loop-number.invariant.below
