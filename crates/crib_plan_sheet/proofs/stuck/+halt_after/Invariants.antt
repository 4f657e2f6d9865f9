use Rattle.std.proofs.Common.{length}
use Rattle.crib_plan_sheet.proofs.stuck.+halt_after.Given as goal

abbrev pub decreases-halt_after : goal.decreases-halt_after
decreases-halt_after g l = length l.acts.now
