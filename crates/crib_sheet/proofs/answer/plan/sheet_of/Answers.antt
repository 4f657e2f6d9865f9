use Rattle.std.proofs.Common.{refl}
use Rattle.crib_sheet.specs.Sheet.{parts_reply}
use Rattle.crib_sheet.proofs.MadeSheets.{plan_answers, sheet_made}
use Rattle.crib_sheet.proofs.answer.plan.sheet_of.Goals as goal

pub returns-clause-outcome : goal.returns-clause-outcome
unfolding parts_reply
returns-clause-outcome g c =
    rw c.status_of.ensures (plan_answers _, sheet_made _ _ _ _ _ _ _ _ _ c.requires.right c.in-Ok-beaten_by.ensures c.requires.best refl)
