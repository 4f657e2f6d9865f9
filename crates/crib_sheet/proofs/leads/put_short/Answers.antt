use Rattle.std.proofs.Common.{rules}
use Rattle.crib_run.proofs.Printing.{as_text, more}
use Rattle.crib_sheet.proofs.leads.put_short.Goals as goal

pub returns-in-Missed : goal.returns-in-Missed
returns-in-Missed g c =
    rw c.in-Missed.is (as_text (more (more c.put-in-Missed.ensures c.put_after.ensures) c.put-in-Missed-2.ensures) (search rules))

pub returns-in-Beaten : goal.returns-in-Beaten
returns-in-Beaten g c =
    rw c.in-Beaten.is
    (as_text (more (more (more (more (more (more c.put-in-Beaten.ensures c.put_after-in-Beaten.ensures) c.put-in-Beaten-2.ensures) c.put_grouped.ensures)
    c.put-in-Beaten-3.ensures) c.put_grouped-in-Beaten.ensures) c.put-in-Beaten-4.ensures) (search rules))
