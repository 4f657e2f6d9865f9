use Rattle.std.proofs.Common.{rules}
use Rattle.crib_run.proofs.Printing.{as_text, more}
use Rattle.crib_plan_sheet.specs.PlanNow.{now_line}
use Rattle.crib_plan_sheet.proofs.now.put_line.Goals as goal

pub returns : goal.returns
unfolding now_line
returns g c =
    as_text (more (more (more (more (more (more c.put.ensures c.put_small.ensures) c.put-2.ensures) c.put_other_score.ensures)
    c.put-3.ensures) c.put_held.ensures) c.put-4.ensures) (search rules)
