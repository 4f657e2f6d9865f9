use Rattle.crib_run.proofs.Printing.{more}
use Rattle.crib_sheet.specs.Sheet.{parts_reply}
use Rattle.crib_sheet.proofs.verdict.page.put_plan_sheet.Goals as goal

pub returns : goal.returns
unfolding parts_reply
returns g c = rw c.is_sure.ensures at (more c.put_head.ensures c.put_plan.ensures)
