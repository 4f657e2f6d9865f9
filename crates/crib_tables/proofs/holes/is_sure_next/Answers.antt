use Rattle.crib_tables.proofs.SureHoles.{plan_next, turn_next}
use Rattle.crib_tables.proofs.holes.is_sure_next.Goals as goal

pub returns-in-None : goal.returns-in-None
returns-in-None g c = plan_next c.args.problem.now c.args.next.now c.is_winnable.result c.in-None.is c.is_winnable.ensures

pub returns-in-Some : goal.returns-in-Some
returns-in-Some g c = turn_next c.args.problem.now c.args.next.now c.in-Some.act c.is_sure_turn.result c.in-Some.is c.is_sure_turn.ensures
