use Rattle.std.proofs.Common.{◌≡◌, length, map, take}
use Rattle.crib_plan_sheet.specs.PlanOutline.{behind_cards}
use Rattle.crib_plan_sheet.proofs.index.behind_each.Given as goal

abbrev pub invariant-loop-index : goal.invariant-loop-index
invariant-loop-index g l =
    record { long : length l.behind ≡ 14; so_far : take l.index l.behind ≡ map (behind_cards l.plan) (take l.index l.places) }
