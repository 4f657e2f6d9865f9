-- What may be played next: when the entries, the second column and the plan below them are right.
use Rattle.std.specs.Prelude.{◌≡◌, ◌⊎◌, ℕ, Bool, true, false, not, List, [], ◌∷◌, Option, None, Some}
use Rattle.std.specs.List.{list_any}
use Rattle.crib_cards.specs.declared.moves.Act.{Act}
use Rattle.crib_problem.specs.declared.problem.Goal.{Goal}
use Rattle.crib_problem.specs.declared.problem.Goal.TheVariants.{Win, Stop}
use Rattle.crib_problem.specs.declared.problem.Version.TheVariants.{Two}
use Rattle.crib_problem.specs.Setup.{IsSetup, Setup}
use Rattle.crib_plan.specs.Nodes.{most_nodes}
use Rattle.crib_plan.specs.declared.plan.Node.{Node}
use Rattle.crib_beaten.specs.declared.rows.Rows.{Rows}
use Rattle.crib_leads.specs.Leads.{AreEntries, AreTheirs, IsTooLarge, own_turns}
use Rattle.crib_leads.specs.declared.leads.Lead.{Lead}
use Rattle.crib_run.specs.declared.status.Status.{Status}
use Rattle.crib_run.specs.declared.status.Status.TheVariants.{Yes}
use Rattle.crib_run.specs.Reply.{Reply}
use Rattle.crib_search.specs.Finder.{ExceedsLimit}
use Rattle.crib_search.specs.Tried.{IsNeverStuck}
use Rattle.crib_search.specs.Winnable.{IsWinnable}
use Rattle.crib_sheet.specs.LeadsText.{has_sure, leads_status, leads_text, tried_text}
use Rattle.crib_sheet.specs.PlanBeaten.{AreBeating}
use Rattle.crib_sheet.specs.declared.answer.leads.LeadsSheet.{LeadsSheet}
use Rattle.crib_sheet.specs.declared.answer.leads.TriedPlan.{TriedPlan}

-- the same problem with the goal that the other player doesn't win in this deal
abbrev pub to_stop : Setup → Setup
to_stop problem = record problem { version = Two; goal = Stop }

-- whether there is a second column: the goal is to win, it is the owner's turn, and no card is sure
abbrev pub wants_stops : Goal → List Lead → Bool
wants_stops Win (lead ∷ leads) = not (list_any has_sure (lead ∷ leads))
wants_stops goal leads = false

-- the second column is right: it has the owner's turns for that goal
abbrev pub AreStopsIf : Bool → Setup → List Lead → Type 0
AreStopsIf true problem stops = IsSetup (to_stop problem) → AreEntries (to_stop problem) own_turns stops
AreStopsIf false problem stops = stops ≡ []

-- it is, if there is one
abbrev pub AreStops : Setup → List Lead → List Lead → Type 0
AreStops problem own stops = AreStopsIf (wants_stops problem.goal own) problem stops

-- a text says right how many deals beat a plan that is never stuck
abbrev pub SaysTried : Setup → List ℕ → Type 0
SaysTried problem text =
    (plan : List Node) × (open_deals : ℕ) × (beaten : ℕ) × (hands : Option Rows) × IsNeverStuck problem plan
    × AreBeating problem plan open_deals beaten hands × (text ≡ tried_text plan open_deals beaten hands)

-- the text below the turns, by their status: there is one if no plan is sure
abbrev pub IsBelow : Setup → Status → List ℕ → Type 0
IsBelow problem Yes text = text ≡ []
IsBelow problem other text = (IsWinnable problem × (text ≡ [])) ⊎ ((¬ IsWinnable problem) × SaysTried problem text)

-- a reply has the turns that may come next, with right verdicts
pub record HasLeads (problem : Setup) (reply : Reply) : Type 0 where
  pub own : List Lead
  pub theirs : List Lead
  pub stops : List Lead
  pub below : List ℕ
  pub own_right : AreEntries problem own_turns own
  pub theirs_right : AreTheirs problem theirs
  pub stops_right : AreStops problem own stops
  pub below_right : IsBelow problem (leads_status own theirs) below
  pub written :
      reply ≡ record { output = leads_text problem own stops theirs below; status = leads_status own theirs }

-- a plan that is found after a turn, or for the problem itself, has more nodes than a plan may have
abbrev pub HasLargePlan : Setup → Type 0
HasLargePlan problem =
    ((act : Act) × IsTooLarge problem act) ⊎ ((act : Act) × IsTooLarge (to_stop problem) act)
    ⊎ ExceedsLimit problem most_nodes

-- the text of a plan to try, if there is one
abbrev pub below_text : {A : Type 0} → Option (TriedPlan A) → List ℕ
below_text None = []
below_text (Some tried) = tried_text tried.plan tried.tally.open_deals tried.tally.beaten tried.hands

-- the reply with the turns that may come next
abbrev pub leads_reply : {A : Type 0} → LeadsSheet A → Reply
leads_reply sheet = record {
  output = leads_text sheet.problem sheet.leads.own.items sheet.stops.items sheet.leads.theirs.items
      (below_text sheet.below);
  status = leads_status sheet.leads.own.items sheet.leads.theirs.items;
}
