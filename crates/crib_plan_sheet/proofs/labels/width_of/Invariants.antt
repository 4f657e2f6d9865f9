use Rattle.std.proofs.Common.{◌≡◌, ◌≤◌, max}
use Rattle.crib_plan_sheet.specs.Private.Pages.{width_at}
use Rattle.crib_plan_sheet.proofs.labels.width_of.Given as goal

abbrev pub invariant-loop-index : goal.invariant-loop-index
invariant-loop-index l = record { width : max l.width (width_at l.branches l.index) ≡ width_at l.branches 0; narrow : l.width ≤ 28 }
