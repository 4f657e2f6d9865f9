use Rattle.crib_deals.proofs.ExactCounts.{exactly_none}
use Rattle.crib_deals.proofs.ListedHolds.{open_listed}
use Rattle.crib_deals.proofs.TableRows.{all_missing}
use Rattle.crib_deals.proofs.deals.Deals.count.Goals as goal

pub returns-then-is_impossible-clause-open : goal.returns-then-is_impossible-clause-open
returns-then-is_impossible-clause-open c =
    rw c.len.ensures.value (open_listed (rw c.self.view_is at c.self.invariant.knows.setup) c.holds-holds.ensures.listed)

pub returns-then-is_impossible-clause-missing : goal.returns-then-is_impossible-clause-missing
returns-then-is_impossible-clause-missing c =
    let setup = rw c.self.view_is at c.self.invariant.knows.setup in
    rw c.len.ensures.value (all_missing setup c.args.demand (c.is_impossible.ensures.0 c.if-is_impossible.true)
    (open_listed setup c.holds-holds.ensures.listed))

pub returns-then-all_meet-clause-open : goal.returns-then-all_meet-clause-open
returns-then-all_meet-clause-open c =
    rw c.len.ensures.value (open_listed (rw c.self.view_is at c.self.invariant.knows.setup) c.holds-holds.ensures.listed)

pub returns-then-all_meet-clause-missing : goal.returns-then-all_meet-clause-missing
returns-then-all_meet-clause-missing c = exactly_none (λ dealt order has. c.all_meet.ensures c.if-all_meet.true dealt has)
