use Rattle.std.proofs.Common.{sym, ◌∙◌}
use Rattle.std.proofs.lemmas.Option.{none-some}
use Rattle.std.proofs.lemmas.Result.{err_from_is_err_and}
use Rattle.crib_sheet.specs.Leads.{to_stop}
use Rattle.crib_sheet.proofs.LeadsMade.{column, column_of, no_column, no_stops}
use Rattle.crib_sheet.proofs.answer.leads.stops_of.Goals as goal

pub returns-then-not-wants_stops : goal.returns-then-not-wants_stops
returns-then-not-wants_stops g c =
    no_column c.args.problem.now c.args.own.now _ (sym c.wants_stops.ensures ∙ c.if-not-wants_stops.true) c.new.ensures.items

pub returns-in_default : goal.returns-in_default
returns-in_default g c =
    column c.args.problem.now c.args.own.now _ (sym c.wants_stops.ensures ∙ c.if-not-wants_stops.false)
    (λ setup. absurd (none-some (to_stop c.args.problem.now) (sym c.in_default.is ∙ c.with_goal.ensures.valid setup)))

pub returns : goal.returns
returns g c =
    column_of c.args.problem.now c.args.own.now _ _ (sym c.wants_stops.ensures ∙ c.if-not-wants_stops.false) c.in-Some.ensures.only.0
    c.in_ok-leads.ensures.0

pub returns-in_err-leads : goal.returns-in_err-leads
returns-in_err-leads g c =
    let p = err_from_is_err_and c.from_residual.result c.from_residual.ensures.1 in
    rw (p.1, p.2) (no_stops c.args.problem.now _ _ c.in-Some.ensures.only.0 c.in_err-leads.ensures)
