use Rattle.std.proofs.Common.{length}
use Rattle.crib_plan_sheet.proofs.stuck.+is_held.Given as goal

abbrev pub decreases-is_held : goal.decreases-is_held
decreases-is_held l = length l.hold.now
