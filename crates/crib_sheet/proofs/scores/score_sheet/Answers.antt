use Rattle.std.proofs.Common.{inl, refl}
use Rattle.crib_sheet.proofs.MadeSheets.{scores_made, scores_without_memory}
use Rattle.crib_sheet.proofs.scores.score_sheet.Goals as goal

pub returns-in-Ok-clause-outcome : goal.returns-in-Ok-clause-outcome
returns-in-Ok-clause-outcome g c = (inl refl, scores_made _ _ _ c.in_ok-problem.ensures.read c.in-Ok.ensures)

pub returns-in-Err-clause-outcome : goal.returns-in-Err-clause-outcome
returns-in-Err-clause-outcome g c = scores_without_memory _ _ c.in_ok-problem.ensures.read
