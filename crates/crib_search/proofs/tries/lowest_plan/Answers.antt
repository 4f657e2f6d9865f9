use Rattle.std.proofs.Common.{arith}
use Rattle.crib_search.proofs.FoundIsPlan.{tree_plan}
use Rattle.crib_search.proofs.FoundAfterTurns.{ok_map}
use Rattle.crib_search.proofs.StatedCards.{stated_plan, order_plan}
use Rattle.crib_search.proofs.StatedTrees.{states_lowest}
use Rattle.crib_search.proofs.tries.lowest_plan.Goals as goal

pub plan_from-requires-clause-named : goal.plan_from-requires-clause-named
plan_from-requires-clause-named g c = (
  c.in-Ok.ensures.planned.tree,
  c.in-Ok.ensures.planned.names,
  tree_plan c.in-Ok.ensures.planned.tree c.in-Ok.ensures.planned.whole,
)

pub returns-clause-stated : goal.returns-clause-stated
returns-clause-stated g c =
    let planned = c.in-Ok.ensures.planned in
    let states = states_lowest c.args.problem.now c.start.result c.own_left.result c.own_left.ensures planned.tree planned.says in
    let stated = stated_plan c.args.problem.now c.start.ensures.setup planned.tree (states _ c.start.ensures) in
    ok_map c.plan_from.result _ _ (λ plan made. rw (made planned.tree planned.names) stated) c.plan_from.ensures.plan

pub returns-clause-fits : goal.returns-clause-fits
returns-clause-fits g c = λ e.
    let planned = c.in-Ok.ensures.planned in
    let few = order_plan c.args.problem.now c.start.result c.start.ensures c.own_left.result c.own_left.ensures planned.tree planned.says in
    absurd (omega (arith, few, c.plan_from.ensures.large e planned.tree planned.names))
