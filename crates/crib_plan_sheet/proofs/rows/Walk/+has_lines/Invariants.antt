use Rattle.std.proofs.Common.{length}
use Rattle.crib_plan_sheet.proofs.PlanRows.{room}
use Rattle.crib_plan_sheet.proofs.rows.Walk.+has_lines.Given as goal

abbrev pub decreases-has_lines : goal.decreases-has_lines
decreases-has_lines g l = room (length l.self.now.plan.now) l.place
