use Rattle.std.proofs.Common.{◌+◌, ◌-◌, ◌*◌, length}
use Rattle.crib_run.proofs.Printing.{SoFar}
use Rattle.crib_plan_sheet.proofs.PlanRows.{room}
use Rattle.crib_plan_sheet.specs.PlanText.{lines_text}
use Rattle.crib_plan_sheet.specs.Private.Pages.{lines_at, width_at}
use Rattle.crib_plan_sheet.proofs.rows.Walk.+row.Given as goal

abbrev pub decreases-put_row : goal.decreases-put_row
decreases-put_row g l = 3 * room (length l.self.now.plan.now) l.place + 2

abbrev pub decreases-put_node : goal.decreases-put_node
decreases-put_node g l = 3 * (length l.self.now.plan.now - l.node) + 1

abbrev pub decreases-put_lines : goal.decreases-put_lines
decreases-put_lines g l = 3 * (length l.self.now.plan.now - l.look)

abbrev pub invariant-put_lines-loop-index : goal.invariant-put_lines-loop-index
invariant-put_lines-loop-index g l =
    SoFar (lines_text l.level (width_at l.branches 0) (lines_at l.self.outline.now l.self.plan.now l.branches l.index))
    (lines_text l.level (width_at l.branches 0) (lines_at l.self.outline.now l.self.plan.now l.branches 0))
    (g.P.Page.stand l.initial.page) (g.P.Page.stand l.page)
