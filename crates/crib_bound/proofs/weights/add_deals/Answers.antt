use Rattle.std.proofs.Common.{◌*◌, ap, arith}
use Rattle.crib_sure.proofs.PointsOfDeals.{none_meets}
use Rattle.crib_bound.proofs.GradeCounts.{whole_added}
use Rattle.crib_bound.proofs.weights.add_deals.Goals as goal

pub returns-then-is_impossible-clause-added : goal.returns-then-is_impossible-clause-added
returns-then-is_impossible-clause-added g c =
    whole_added _ (16 * c.args.index) (ap (λ n. 16 * n) c.requires.index) (omega (arith, c.requires.small, c.told-weights)) c.told-ladder
    (λ dealt has. none_meets c.requires.setup has.0.0 _ (c.is_impossible.ensures.0 c.if-is_impossible.true)) c.count.ensures.few.1 c.count.ensures.open

pub add_grades-requires-clause-index : goal.add_grades-requires-clause-index
add_grades-requires-clause-index g c = rw c.table-table.ensures c.requires.index

pub put_table-requires : goal.put_table-requires
put_table-requires g c = rw c.table-table.ensures c.requires.index
