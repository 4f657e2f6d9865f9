use Rattle.crib_bound.proofs.HoldUnits.{for_plans, of_hold, of_one}
use Rattle.crib_bound.proofs.units.unit_of.Goals as goal

pub returns-then-may_crib_decide-clause-players : goal.returns-then-may_crib_decide-clause-players
returns-then-may_crib_decide-clause-players c player count exact = of_one count

pub returns-then-may_crib_decide-clause-multiple : goal.returns-then-may_crib_decide-clause-multiple
returns-then-may_crib_decide-clause-multiple c plan count exact = of_one count

pub returns-else-may_crib_decide-clause-players : goal.returns-else-may_crib_decide-clause-players
returns-else-may_crib_decide-clause-players c = of_hold (c.may_crib_decide.ensures c.if-may_crib_decide.false)

pub returns-else-may_crib_decide-clause-multiple : goal.returns-else-may_crib_decide-clause-multiple
returns-else-may_crib_decide-clause-multiple c = for_plans 820 (of_hold (c.may_crib_decide.ensures c.if-may_crib_decide.false))
