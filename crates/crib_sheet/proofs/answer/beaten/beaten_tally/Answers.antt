use Rattle.crib_sheet.proofs.MadeSheets.{beaten_answers, beaten_made, beaten_without_memory}
use Rattle.crib_sheet.proofs.answer.beaten.beaten_tally.Goals as goal

pub returns-in-Ok-clause-outcome : goal.returns-in-Ok-clause-outcome
returns-in-Ok-clause-outcome g c = (beaten_answers _, beaten_made _ _ _ _ _ c.in_ok-question.ensures.read c.in-Ok.ensures)

pub returns-clause-outcome : goal.returns-clause-outcome
returns-clause-outcome g c = beaten_without_memory _ _ c.in_ok-question.ensures.read
