use Rattle.crib_bound.proofs.GradeCounts.{missing_grade}
use Rattle.crib_bound.proofs.grades.missing_with.Goals as goal

pub overflow_sub-result : goal.overflow_sub-result
overflow_sub-result c = (missing_grade c.args.ladder.now c.args.demand c.missing_from.ensures.exact c.missing_from-2.ensures.exact).0

pub returns-clause-exact : goal.returns-clause-exact
returns-clause-exact c = (missing_grade c.args.ladder.now c.args.demand c.missing_from.ensures.exact c.missing_from-2.ensures.exact).1
