use Rattle.std.proofs.Common.{◌≡◌, arith}
use Rattle.crib_deals.proofs.NumberedDeals.{all_below, next_below}
use Rattle.crib_deals.proofs.TableRows.{suits_numbered}
use Rattle.crib_deals.proofs.table.Table.missing.Goals as goal

pub overflow_add-self-inside : goal.overflow_add-self-inside
overflow_add-self-inside c = omega (arith, c.self.invariant.small, c.loop-suits-test.true)

pub loop-suits-preserved : goal.loop-suits-preserved
loop-suits-preserved c =
    let row = rw c.self.view_is at (c.self.invariant.rows c.loop-suits.suits c.loop-suits-test.true) in record {
      exact = next_below (suits_numbered row.setup c.args.demand) c.loop-suits-test.true c.loop-suits.invariant.exact
          (c.missing_in-missing.ensures.exact c.args.self.now c.loop-suits.suits row);
      few = let few = row.few in omega (arith, c.loop-suits.invariant.few, c.missing_in-missing.ensures.few, few);
    }

pub returns : goal.returns
returns c =
    let whole : c.loop-suits.suits ≡ 7 = omega (arith, c.loop-suits.auto.suits-end, c.loop-suits-test.false) in
    let row = rw c.self.view_is at (c.self.invariant.rows 0 (omega arith)) in
    all_below (suits_numbered row.setup c.args.demand) (rw whole at c.loop-suits.invariant.exact)
