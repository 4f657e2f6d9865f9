use Rattle.crib_deals.proofs.ExactCounts.{exactly_fewer}
use Rattle.crib_deals.proofs.table.Table.count.Goals as goal

pub returns-clause-few : goal.returns-clause-few
returns-clause-few c =
    (exactly_fewer (λ dealt order has. has.0) c.missing.ensures (rw c.self.view_is at c.self.invariant.are_open), c.self.invariant.few)
