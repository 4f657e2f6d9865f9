use Rattle.crib_bound.proofs.Plans.{plan}
use Rattle.crib_bound.proofs.Worths.{each_allowed}
use Rattle.crib_bound.proofs.walk.bound_of.Goals as goal

pub returns-clause-strategy : goal.returns-clause-strategy
returns-clause-strategy g c = each_allowed (λ history card one h. absurd h) c.worth_if-worth.ensures.strategy

pub returns-clause-plans : goal.returns-clause-plans
returns-clause-plans g c nodes count exact =
    plan _ _ _ count nodes (each_allowed (λ history card one h. absurd h) c.worth_if-worth.ensures.strategy) exact
