use Rattle.std.proofs.Common.{inl, refl}
use Rattle.crib_sheet.proofs.MadeSheets.{holes_made, holes_without_memory}
use Rattle.crib_sheet.proofs.holes.holes_sheet.Goals as goal

pub returns-in-Ok-clause-outcome : goal.returns-in-Ok-clause-outcome
returns-in-Ok-clause-outcome g c = (inl refl, holes_made _ _ _ c.in_ok-problem.ensures.read (_, _, c.in-Ok.ensures.0, c.in-Ok.ensures.1, refl))

pub returns-in-Err-clause-outcome : goal.returns-in-Err-clause-outcome
returns-in-Err-clause-outcome g c = holes_without_memory _ _ c.in_ok-problem.ensures.read
