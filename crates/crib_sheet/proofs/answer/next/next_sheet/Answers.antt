use Rattle.crib_sheet.proofs.MadeSheets.{next_answers, next_made, next_refused}
use Rattle.crib_sheet.proofs.answer.next.next_sheet.Goals as goal

pub returns-in-Ok-clause-outcome : goal.returns-in-Ok-clause-outcome
returns-in-Ok-clause-outcome g c = (next_answers c.in-Ok.next, next_made _ _ _ _ _ c.in_ok-question.ensures.read _ c.in-Ok.ensures.next)

pub returns-in-Err-clause-outcome : goal.returns-in-Err-clause-outcome
returns-in-Err-clause-outcome g c = next_refused _ _ _ _ _ c.in_ok-question.ensures.read _ c.in-Err.ensures.next
