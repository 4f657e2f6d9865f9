-- The law of the sheets of plans: a sheet states what its plan states.
use Rattle.std.specs.Prelude.{◌≡◌, ℕ, Bool, List, [], ◌∷◌}
use Rattle.crib_plan.specs.declared.plan.Next.{Next}
use Rattle.crib_plan.specs.declared.plan.Node.{Node}
use Rattle.crib_plan.specs.Nodes.{ArePlan}
use Rattle.crib_plan.specs.Places.{plan_start, stated_card, place_after_card, place_after_letter}
use Rattle.crib_plan_sheet.specs.PlanSheet.{Turn, OwnCard, Shown, sheet_with, sheet_card}

-- the place of a plan after a turn
abbrev pub place_after_turn : List Node → Next → Turn → Next
place_after_turn plan place OwnCard = place_after_card plan place
place_after_turn plan place (Shown letter) = place_after_letter plan place letter

-- the place of a plan after some turns
abbrev pub place_after_turns : List Node → Next → List Turn → Next
place_after_turns plan place [] = place
place_after_turns plan place (turn ∷ turns) = place_after_turns plan (place_after_turn plan place turn) turns

-- after every list of turns the sheet of a plan states the card that the plan states, or none if it states none,
-- whichever nodes have paragraphs of their own
abbrev pub StatesTheSame : Type 0
StatesTheSame =
    (apart : ℕ → Bool) (plan : List Node) (turns : List Turn) → ArePlan plan →
    sheet_card (sheet_with apart plan) turns ≡ stated_card plan (place_after_turns plan (plan_start plan) turns)
