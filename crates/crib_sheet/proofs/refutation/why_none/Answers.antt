use Rattle.crib_sheet.proofs.MadeSheets.{fits_memory, why_outcome}
use Rattle.crib_sheet.proofs.refutation.why_none.Goals as goal

pub returns-clause-outcome : goal.returns-clause-outcome
returns-clause-outcome g c = why_outcome c.args.input.now c.in_ok-problem.problem c.reason_of.result c.in_ok-problem.ensures.read c.reason_of.ensures

pub returns-clause-told : goal.returns-clause-told
returns-clause-told g c = fits_memory _ c.reason_of.result c.reason_of.ensures
