use Rattle.std.proofs.Common.{rules}
use Rattle.crib_run.proofs.Printing.{as_text, more}
use Rattle.crib_plan_sheet.specs.PlanStuck.{stuck_words}
use Rattle.crib_plan_sheet.proofs.stuck.put_halt.Goals as goal

pub returns-in-NoNode : goal.returns-in-NoNode
unfolding stuck_words
returns-in-NoNode g c = rw c.in-NoNode.is c.put.ensures

pub returns-in-At : goal.returns-in-At
unfolding stuck_words
returns-in-At g c =
    rw c.in-At.is (as_text (more (more c.put-in-At.ensures c.put_number.ensures) c.put_stated.ensures) (search rules))

pub returns-in-Ended : goal.returns-in-Ended
unfolding stuck_words
returns-in-Ended g c =
    rw c.in-Ended.is (more (more c.put-in-Ended.ensures c.put_number-in-Ended.ensures) c.put-in-Ended-2.ensures)

pub returns-in-NoLine : goal.returns-in-NoLine
unfolding stuck_words
returns-in-NoLine g c =
    rw c.in-NoLine.is
    (more (more (more (more c.put-in-NoLine.ensures c.put_letter.ensures) c.put-in-NoLine-2.ensures) c.put_number-in-NoLine.ensures)
    c.put-in-NoLine-3.ensures)
