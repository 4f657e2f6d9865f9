use Rattle.std.proofs.Common.{arith}
use Rattle.crib_deals.proofs.ExactCounts.{exactly_none, exactly_same}
use Rattle.crib_bound.proofs.GradeCounts.{grade_few, missing_met}
use Rattle.crib_bound.proofs.grades.missing_from.Goals as goal

pub overflow_sub-result : goal.overflow_sub-result
overflow_sub-result c =
    (missing_met c.args.ladder.now c.first_of-met.result c.args.demand c.and.result c.and.ensures c.first_of-met.ensures c.count-2.ensures.missing
    c.count-3.ensures.missing).0

pub returns-clause-exact : goal.returns-clause-exact
returns-clause-exact c =
    (missing_met c.args.ladder.now c.first_of-met.result c.args.demand c.and.result c.and.ensures c.first_of-met.ensures c.count-2.ensures.missing
    c.count-3.ensures.missing).1

pub returns-then-grade-eq0-clause-exact : goal.returns-then-grade-eq0-clause-exact
returns-then-grade-eq0-clause-exact c =
    exactly_same (λ dealt order has. (has, omega (arith, c.if-grade-eq0.true))) (λ dealt order has. has.0) c.count.ensures.missing

pub returns-then-grade-eq16-clause-exact : goal.returns-then-grade-eq16-clause-exact
returns-then-grade-eq16-clause-exact c = exactly_none (λ dealt order has.
    let few = grade_few c.args.table.now.problem dealt c.args.ladder.now in
    let least = has.1 in
    absurd (omega (arith, few, least, c.told-ladder, c.if-grade-eq16.true)))
