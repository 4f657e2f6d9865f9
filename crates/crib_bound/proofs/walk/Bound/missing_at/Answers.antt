use Rattle.std.proofs.Common.{rules}
use Rattle.crib_bound.proofs.OpenDeals.{all_missing, table_missing}
use Rattle.crib_bound.proofs.walk.Bound.missing_at.Goals as goal

pub returns-then-is_impossible : goal.returns-then-is_impossible
returns-then-is_impossible c = λ deals are. all_missing are c.args.demand c.args.index _ (search rules) (c.is_impossible.ensures.0 c.if-is_impossible.true)

pub returns-in-Some-Some : goal.returns-in-Some-Some
returns-in-Some-Some c = λ deals are.
    table_missing are c.args.demand c.args.index c.in-Some-Some.table c.missing_with.result (search rules) c.missing_with.ensures.long
    c.missing_with.ensures.exact
