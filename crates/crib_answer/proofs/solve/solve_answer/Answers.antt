use Rattle.std.proofs.Common.{None, Some, inl, inr, refl, rules}
use Rattle.crib_search.specs.Finder.{IsFound}
use Rattle.crib_run.specs.Reply.{reply_of}
use Rattle.crib_run.proofs.Delivery.{outcome_map}
use Rattle.crib_answer.proofs.RightReplies.{none_made, plan_made}
use Rattle.crib_answer.proofs.solve.solve_answer.Goals as goal

pub returns-in-Some-clause-outcome : goal.returns-in-Some-clause-outcome
returns-in-Some-clause-outcome g c =
    let found : IsFound c.args.problem.now (Some c.in-Ok-Plan.plan) = rw (c.in-Ok-Plan.is, c.in-Ok-Plan.field-0-is) at c.find_with_shows-found.ensures.exact in
    let large = rw c.in-Ok-Plan.is at c.find_with_shows-found.ensures.large in
    outcome_map reply_of _ _
    (λ reply. plan_made c.args.problem.now c.in-Ok-Plan.plan _ reply found (λ exceeds. let h = large exceeds in cc) c.in-Some.ensures.plan)
    c.plan_answer.result c.plan_answer.ensures.outcome

pub returns-in-Ok-None-clause-outcome : goal.returns-in-Ok-None-clause-outcome
returns-in-Ok-None-clause-outcome g c =
    let found : IsFound c.args.problem.now None = rw (c.in-Ok-None.is, c.in-Ok-None.field-0-is) at c.find_with_shows-found.ensures.exact in
    let large = rw c.in-Ok-None.is at c.find_with_shows-found.ensures.large in
    none_made _ _ found (λ exceeds. let h = large exceeds in cc) c.line_answer.ensures

pub returns-in-Err-TooLarge-clause-outcome : goal.returns-in-Err-TooLarge-clause-outcome
returns-in-Err-TooLarge-clause-outcome g c = inl (inr (c.find_with_shows-found.ensures.too_large (search rules), refl))

pub returns-in-Err-NoMemory-clause-outcome : goal.returns-in-Err-NoMemory-clause-outcome
returns-in-Err-NoMemory-clause-outcome g c = inr refl
