use Rattle.std.proofs.Common.{◌≡◌, ◌≤◌, false, length}
use Rattle.crib_plan_sheet.specs.Private.Spots.{AreLow, AreSized, is_first_apart}
use Rattle.crib_plan_sheet.proofs.spots.spots_of.Given as goal

abbrev pub invariant-loop-number : goal.invariant-loop-number
invariant-loop-number g l =
    (l.number ≤ length l.nodes)
    × (length l.spots.items ≡ length l.nodes)
    × AreLow l.spots.items
    × AreSized l.named l.number l.nodes l.spots.items
    × (is_first_apart l.spots.items ≡ false)

abbrev pub decreases-loop-number : goal.decreases-loop-number
decreases-loop-number g l = l.number
