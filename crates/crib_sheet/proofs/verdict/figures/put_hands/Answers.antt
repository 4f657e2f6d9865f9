use Rattle.std.proofs.Common.{rules}
use Rattle.crib_run.proofs.Printing.{as_text, more}
use Rattle.crib_sheet.proofs.verdict.figures.put_hands.Goals as goal

pub returns-in-Some : goal.returns-in-Some
returns-in-Some g c =
    rw c.in-Some.is (as_text (more (more (more c.put-in-Some.ensures c.put_all_rows.ensures) c.put_others.ensures) c.put-in-Some-2.ensures)
    (rw c.as_slice.ensures.value (search rules)))
