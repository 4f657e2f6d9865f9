use Rattle.std.proofs.Common.{rules}
use Rattle.crib_sheet.proofs.LeadsMade.{below_tried, no_try}
use Rattle.crib_sheet.proofs.answer.leads.tried_below.Goals as goal

pub returns-in_err-tried : goal.returns-in_err-tried
returns-in_err-tried g c = let none = no_try _ _ c.in_err-tried.ensures in search rules

pub returns-in-Ok : goal.returns-in-Ok
returns-in-Ok g c =
    below_tried c.args.problem.now c.args.status c.in_ok-tried.tried.plan c.in_ok-tried.tried.is_sure _ _ _ c.in_default.not-Yes c.if-tried.false
    c.in_ok-tried.ensures c.in-Ok.ensures
