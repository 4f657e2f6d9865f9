use Rattle.crib_run.proofs.Delivery.{outcome_map}
use Rattle.crib_sheet.specs.Sheet.{parts_reply}
use Rattle.crib_sheet.proofs.MadeSheets.{found_made, typed_made}
use Rattle.crib_sheet.proofs.answer.plan.plan_sheet.Goals as goal

pub returns-in-Some-clause-outcome : goal.returns-in-Some-clause-outcome
returns-in-Some-clause-outcome g c =
    outcome_map parts_reply _ _ (λ reply. typed_made _ _ _ _ reply c.in_ok-asked.ensures.read c.in-Some.is) c.typed_sheet.result c.typed_sheet.ensures.outcome

pub returns-in-None-clause-outcome : goal.returns-in-None-clause-outcome
returns-in-None-clause-outcome g c =
    outcome_map parts_reply _ _ (λ reply. found_made _ _ _ reply c.in_ok-asked.ensures.read c.in-None.is) c.sheet_to_try.result c.sheet_to_try.ensures.outcome
