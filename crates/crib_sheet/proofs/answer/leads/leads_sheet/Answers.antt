use Rattle.std.proofs.Common.{List, refl, subst, ◌∙◌}
use Rattle.std.proofs.lemmas.Result.{err_from_is_err_and}
use Rattle.crib_leads.specs.declared.leads.Lead.{Lead}
use Rattle.crib_run.specs.declared.status.Status.{Status}
use Rattle.crib_sheet.specs.Leads.{AreStops, IsBelow, below_text}
use Rattle.crib_sheet.proofs.LeadsMade.{no_turns}
use Rattle.crib_sheet.proofs.MadeSheets.{fits_large, leads_answers, leads_made, leads_unmade}
use Rattle.crib_sheet.proofs.answer.leads.leads_sheet.Goals as goal

pub returns-in_err-leads-clause-outcome : goal.returns-in_err-leads-clause-outcome
returns-in_err-leads-clause-outcome g c =
    let p = err_from_is_err_and c.from_residual-in_err-leads.result c.from_residual-in_err-leads.ensures.1 in
    rw (p.1, p.2) (leads_unmade _ _ _ c.in_ok-problem.ensures.read (no_turns _ _ c.in_err-leads.ensures))

pub returns-in_err-stops-clause-outcome : goal.returns-in_err-stops-clause-outcome
returns-in_err-stops-clause-outcome g c =
    let p = err_from_is_err_and c.from_residual-in_err-stops.result c.from_residual-in_err-stops.ensures.1 in
    rw (p.1, p.2) (leads_unmade _ _ _ c.in_ok-problem.ensures.read c.in_err-stops.ensures)

pub returns-in_err-below-clause-outcome : goal.returns-in_err-below-clause-outcome
returns-in_err-below-clause-outcome g c =
    let p = err_from_is_err_and c.from_residual-in_err-below.result c.from_residual-in_err-below.ensures.1 in
    rw (p.1, p.2) (leads_unmade _ _ _ c.in_ok-problem.ensures.read c.in_err-below.ensures)

pub returns-clause-outcome : goal.returns-clause-outcome
returns-clause-outcome g c = (
  leads_answers c.in_ok-leads.leads.own.items c.in_ok-leads.leads.theirs.items,
  leads_made c.args.input.now c.in_ok-problem.problem _ c.in_ok-problem.ensures.read (record {
    own = c.in_ok-leads.leads.own.items;
    theirs = c.in_ok-leads.leads.theirs.items;
    stops = c.in_ok-stops.stops.items;
    below = below_text c.in_ok-below.below;
    own_right = c.in_ok-leads.ensures.0;
    theirs_right = c.in_ok-leads.ensures.1;
    stops_right =
        subst (λ (own : List Lead). AreStops c.in_ok-problem.problem own c.in_ok-stops.stops.items) c.as_slice.ensures.value c.in_ok-stops.ensures;
    below_right =
        subst (λ (status : Status). IsBelow c.in_ok-problem.problem status (below_text c.in_ok-below.below))
        (rw (c.as_slice-2.ensures.value, c.as_slice-3.ensures.value) at c.leads_status-status.ensures) c.in_ok-below.ensures;
    written = refl;
  }),
)

pub returns-in_err-leads-clause-told : goal.returns-in_err-leads-clause-told
returns-in_err-leads-clause-told g c =
    let p = err_from_is_err_and c.from_residual-in_err-leads.result c.from_residual-in_err-leads.ensures.1 in
    rw (p.1, p.2) (fits_large _ c.in_err-leads.ensures)

pub returns-in_err-stops-clause-told : goal.returns-in_err-stops-clause-told
returns-in_err-stops-clause-told g c =
    let p = err_from_is_err_and c.from_residual-in_err-stops.result c.from_residual-in_err-stops.ensures.1 in
    rw (p.1, p.2) (fits_large _ c.in_err-stops.ensures)

pub returns-in_err-below-clause-told : goal.returns-in_err-below-clause-told
returns-in_err-below-clause-told g c =
    let p = err_from_is_err_and c.from_residual-in_err-below.result c.from_residual-in_err-below.ensures.1 in
    rw (p.1, p.2) (fits_large _ c.in_err-below.ensures)
