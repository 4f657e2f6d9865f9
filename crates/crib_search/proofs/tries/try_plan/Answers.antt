use Rattle.std.proofs.Common.{◌≡◌, true, false, sym, ap}
use Rattle.crib_search.specs.Answer.{plan_found}
use Rattle.crib_search.proofs.PlansOfNodes.{not_fault}
use Rattle.crib_search.proofs.tries.try_plan.Goals as goal

not_both : {Any : Type 0} → true ≡ false → Any
not_both e = absurd cc

pub returns-in-Plan : goal.returns-in-Plan
returns-in-Plan g c = record {
  sure = λ e. c.in_ok-plan.ensures.sure c.in-Plan.plan (ap plan_found c.in-Plan.is);
  found = λ e. rw c.in-Plan.is at c.in_ok-plan.ensures.exact;
  unsure = λ e. not_both e;
  stated = (c.in_ok-plan.ensures.sure c.in-Plan.plan (ap plan_found c.in-Plan.is)).never_stuck;
  large = c.in_ok-plan.ensures.large;
  too_large = λ e. not_fault e;
}

pub returns-in_ok-advised_plan-in-None : goal.returns-in_ok-advised_plan-in-None
returns-in_ok-advised_plan-in-None g c = record {
  sure = λ e. not_both (sym e);
  found = λ e. not_both (sym e);
  unsure = λ e. c.in_ok-plan.ensures.none (ap plan_found c.in-None.is);
  stated = c.in_ok-advised_plan-in-None.ensures.stated;
  large = c.in_ok-plan.ensures.large;
  too_large = λ e. not_fault e;
}
