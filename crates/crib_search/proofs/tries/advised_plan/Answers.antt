use Rattle.crib_search.proofs.FoundIsPlan.{tree_plan}
use Rattle.crib_search.proofs.tries.advised_plan.Goals as goal

pub plan_from-requires-clause-named : goal.plan_from-requires-clause-named
plan_from-requires-clause-named g c = (c.in-Ok.ensures.tree, c.in-Ok.ensures.names, tree_plan c.in-Ok.ensures.tree c.in-Ok.ensures.whole)

pub returns-in-Ok-plan_from-clause-stated : goal.returns-in-Ok-plan_from-clause-stated
returns-in-Ok-plan_from-clause-stated g c = rw (c.in-Ok-plan_from.ensures.plan c.in-Ok.ensures.tree c.in-Ok.ensures.names) c.in-Ok.ensures.says
