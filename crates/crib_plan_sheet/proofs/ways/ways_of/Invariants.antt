use Rattle.std.proofs.Common.{◌≡◌, ℕ, ◌<◌, length, take, min}
use Rattle.std.specs.List.{count_by}
use Rattle.crib_plan_sheet.specs.PlanBranches.{node_leads}
use Rattle.crib_plan_sheet.specs.Private.Ways.{ways_in}
use Rattle.crib_plan_sheet.proofs.ways.ways_of.Given as goal

abbrev pub invariant-loop-number : goal.invariant-loop-number
invariant-loop-number g l =
    (length l.ways.items ≡ length l.nodes)
    × ((node : ℕ) → node < length l.nodes → ways_in l.ways.items node ≡ min 2 (count_by (node_leads node) (take l.number l.nodes)))
