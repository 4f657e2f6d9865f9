use Rattle.std.proofs.Common.{sym, subst, refl}
use Rattle.crib_leads.specs.declared.verdict.LeadVerdict.{LeadVerdict}
use Rattle.crib_leads.specs.Leads.{IsVerdict}
use Rattle.crib_search.proofs.FoundAfterTurns.{ok_map}
use Rattle.crib_leads.proofs.Entries.{none_more, one_more}
use Rattle.crib_leads.proofs.leads.add_turn.Goals as goal

pub returns-clause-added : goal.returns-clause-added
returns-clause-added g c =
    let problem = c.args.problem.now in
    let act = c.args.act.now in
    let right = rw c.in-Some.is at c.in_ok-verdict.ensures.right in
    ok_map c.add_lead.result _ _
    (λ _ same. one_more problem act _ _ c.lead_of.result right.0
    (c.lead_of.ensures.0, c.lead_of.ensures.1, subst (λ (verdict : LeadVerdict). IsVerdict problem act verdict) (sym c.lead_of.ensures.2) right.1) same)
    c.add_lead.ensures.added

pub returns-in_default-clause-added : goal.returns-in_default-clause-added
returns-in_default-clause-added g c = none_more c.args.problem.now c.args.act.now _ _ (rw c.in_default.is at c.in_ok-verdict.ensures.right) refl
