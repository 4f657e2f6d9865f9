-- What is known of a plan to try, and its status, and why there are no turns.
use Rattle.std.specs.Prelude.{◌≡◌, ◌⊎◌, Bool, true, false, IsFalse, IsTrue, List, Some}
use Rattle.crib_cards.specs.declared.moves.Act.{Act}
use Rattle.crib_problem.specs.Setup.{Setup}
use Rattle.crib_plan.specs.Nodes.{ArePlan, most_nodes}
use Rattle.crib_plan.specs.declared.plan.Node.{Node}
use Rattle.crib_sure.specs.Sure.{IsSure}
use Rattle.crib_search.specs.Finder.{ExceedsLimit, IsFound}
use Rattle.crib_search.specs.Tried.{IsNeverStuck}
use Rattle.crib_search.specs.Winnable.{IsWinnable}
use Rattle.crib_input.specs.declared.reason.FaultCause.TheVariants.{NoMemory, TooLarge}
use Rattle.crib_input.specs.declared.reason.Reason.{Reason}
use Rattle.crib_input.specs.declared.reason.Reason.TheVariants.{Fault}
use Rattle.crib_run.specs.declared.status.Status.{Status}
use Rattle.crib_run.specs.declared.status.Status.TheVariants.{Yes, No}
use Rattle.crib_leads.specs.Leads.{IsTooLarge}
use Rattle.crib_sheet.specs.Leads.{HasLargePlan}

-- yes if the plan is sure, and no otherwise
abbrev pub tried_status : Bool → Status
tried_status true = Yes
tried_status false = No

-- what is known of a plan to try
pub record IsTried (problem : Setup) (plan : List Node) (sure : Bool) : Type 0 where
  pub valid : ArePlan plan
  pub holds : IsTrue sure → IsSure problem plan
  pub found : IsTrue sure → IsFound problem (Some plan)
  pub none : IsFalse sure → ¬ IsWinnable problem
  pub stated : IsNeverStuck problem plan
  pub small : ¬ ExceedsLimit problem most_nodes

-- a reason why there is no plan to try: an allocation failed, or the sure plan that the finder finds has more nodes
-- than a plan may have
abbrev pub IsUntried : Setup → Reason → Type 0
IsUntried problem reason =
    (reason ≡ Fault NoMemory) ⊎ ((reason ≡ Fault TooLarge) × ExceedsLimit problem most_nodes)

-- a reason why there are no turns: an allocation failed, or the plan after one has more nodes than a plan may have
abbrev pub IsNoTurns : Setup → Reason → Type 0
IsNoTurns problem reason =
    (reason ≡ Fault NoMemory) ⊎ ((reason ≡ Fault TooLarge) × ((act : Act) × IsTooLarge problem act))

-- a reason why there is no answer: the same, or it is the plan for the problem
abbrev pub IsNoLeads : Setup → Reason → Type 0
IsNoLeads problem reason = (reason ≡ Fault NoMemory) ⊎ ((reason ≡ Fault TooLarge) × HasLargePlan problem)
