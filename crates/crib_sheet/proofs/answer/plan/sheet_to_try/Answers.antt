use Rattle.std.proofs.lemmas.Result.{err_from_is_err_and}
use Rattle.crib_run.proofs.Delivery.{outcome_map}
use Rattle.crib_sheet.specs.Sheet.{IsSheetOf, parts_reply}
use Rattle.crib_sheet.proofs.MadeSheets.{fits_large, tried_sheet, untried_sheet}
use Rattle.crib_sheet.proofs.answer.plan.sheet_to_try.Goals as goal

pub returns-clause-outcome : goal.returns-clause-outcome
returns-clause-outcome g c =
    outcome_map parts_reply _ _ (λ reply. tried_sheet _ _ _ reply c.in_ok-tried.ensures) c.sheet_of.result c.sheet_of.ensures.outcome

pub returns-in_err-tried-clause-outcome : goal.returns-in_err-tried-clause-outcome
returns-in_err-tried-clause-outcome g c =
    let p = err_from_is_err_and c.from_residual.result c.from_residual.ensures.1 in
    rw (p.1, p.2) (untried_sheet c.args.problem (IsSheetOf c.args.problem) _ c.in_err-tried.ensures)

pub returns-in_err-tried-clause-told : goal.returns-in_err-tried-clause-told
returns-in_err-tried-clause-told g c =
    let p = err_from_is_err_and c.from_residual.result c.from_residual.ensures.1 in
    rw (p.1, p.2) (fits_large _ c.in_err-tried.ensures)
