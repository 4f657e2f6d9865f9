-- The parts of the answer with the turns that may come next.
use Rattle.std.proofs.Common.{◌≡◌, inl, inr, ℕ, Bool, true, false, List, [], Option, refl, sym, subst, ◌∙◌}
use Rattle.crib_problem.specs.Setup.{IsSetup, Setup}
use Rattle.crib_input.specs.declared.reason.Reason.{Reason}
use Rattle.crib_plan.specs.declared.plan.Node.{Node}
use Rattle.crib_beaten.specs.declared.rows.Rows.{Rows}
use Rattle.crib_run.specs.declared.status.Status.{Status}
use Rattle.crib_run.specs.declared.status.Status.TheVariants.{Yes}
use Rattle.crib_leads.specs.Leads.{AreEntries, own_turns}
use Rattle.crib_leads.specs.declared.leads.Lead.{Lead}
use Rattle.crib_sheet.specs.Leads.{AreStops, AreStopsIf, IsBelow, to_stop, wants_stops}
use Rattle.crib_sheet.specs.LeadsText.{tried_text}
use Rattle.crib_sheet.specs.PlanBeaten.{AreBeating}
use Rattle.crib_sheet.specs.Private.Tries.{IsNoLeads, IsNoTurns, IsTried, IsUntried}

pub no_turns : (problem : Setup) (reason : Reason) → IsNoTurns problem reason → IsNoLeads problem reason
no_turns problem reason (inl want) = inl want
no_turns problem reason (inr large) = inr (large.0, inl large.1)

stops_large : (problem : Setup) (reason : Reason) → IsNoTurns (to_stop problem) reason → IsNoLeads problem reason
stops_large problem reason (inl want) = inl want
stops_large problem reason (inr large) = inr (large.0, inr (inl large.1))

pub no_stops : (problem other : Setup) (reason : Reason) → other ≡ to_stop problem → IsNoTurns other reason → IsNoLeads problem reason
no_stops problem other reason same turns = stops_large problem reason (subst (λ (its : Setup). IsNoTurns its reason) same turns)

pub no_try : (problem : Setup) (reason : Reason) → IsUntried problem reason → IsNoLeads problem reason
no_try problem reason (inl want) = inl want
no_try problem reason (inr large) = inr (large.0, inr (inr large.1))

-- if no plan is sure, a plan to try is below the turns, with the deals that beat it
pub below_tried : (problem : Setup) (status : Status) (plan : List Node) (sure : Bool) (open_deals beaten : ℕ) (hands : Option Rows)
    → (status ≡ Yes → ⊥) → sure ≡ false → IsTried problem plan sure → AreBeating problem plan open_deals beaten hands
    → IsBelow problem status (tried_text plan open_deals beaten hands)
below_tried problem Yes plan sure open_deals beaten hands other not tried are = absurd (other refl)
below_tried problem _ plan sure open_deals beaten hands other not tried are =
    inr (tried.none not, (plan, open_deals, beaten, hands, tried.stated, are, refl))

module _ (problem : Setup) (own stops : List Lead) where
  pub no_column : wants_stops problem.goal own ≡ false → stops ≡ [] → AreStops problem own stops
  no_column not none = subst (λ (b : Bool). AreStopsIf b problem stops) (sym not) none

  pub column : wants_stops problem.goal own ≡ true → (IsSetup (to_stop problem) → AreEntries (to_stop problem) own_turns stops) →
      AreStops problem own stops
  column wants are = subst (λ (b : Bool). AreStopsIf b problem stops) (sym wants) are

  -- the column of another problem, which is this one with the other goal
  pub column_of : (other : Setup) → wants_stops problem.goal own ≡ true → other ≡ to_stop problem → AreEntries other own_turns stops →
      AreStops problem own stops
  column_of other wants is are = column wants (λ setup. subst (λ (its : Setup). AreEntries its own_turns stops) is are)
