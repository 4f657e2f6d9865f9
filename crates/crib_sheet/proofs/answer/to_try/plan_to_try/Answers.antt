use Rattle.std.proofs.lemmas.Result.{err_from_is_err_and}
use Rattle.crib_run.specs.Reply.{reply_of}
use Rattle.crib_run.proofs.Delivery.{outcome_map}
use Rattle.crib_sheet.proofs.MadeSheets.{fits_large, try_made, try_unmade}
use Rattle.crib_sheet.proofs.answer.to_try.plan_to_try.Goals as goal

pub returns-clause-outcome : goal.returns-clause-outcome
returns-clause-outcome g c =
    outcome_map reply_of _ _ (λ reply. try_made _ _ _ _ reply c.in_ok-problem.ensures.read c.in_ok-tried.ensures) c.plan_answer.result
    c.plan_answer.ensures.outcome

pub returns-in_err-tried-clause-outcome : goal.returns-in_err-tried-clause-outcome
returns-in_err-tried-clause-outcome g c =
    let p = err_from_is_err_and c.from_residual-in_err-tried.result c.from_residual-in_err-tried.ensures.1 in
    rw (p.1, p.2) (try_unmade _ _ _ c.in_ok-problem.ensures.read c.in_err-tried.ensures)

pub returns-in_err-tried-clause-told : goal.returns-in_err-tried-clause-told
returns-in_err-tried-clause-told g c =
    let p = err_from_is_err_and c.from_residual-in_err-tried.result c.from_residual-in_err-tried.ensures.1 in
    rw (p.1, p.2) (fits_large _ c.in_err-tried.ensures)
