use Rattle.std.proofs.Common.{rules}
use Rattle.crib_run.proofs.Printing.{as_text, more}
use Rattle.crib_sheet.specs.Scores.{row_text}
use Rattle.crib_sheet.proofs.scores.put_row.Goals as goal

pub returns : goal.returns
unfolding row_text
returns g c =
    as_text (more (more (more c.put_blanks.ensures c.put_small.ensures) c.put_marks.ensures) c.put.ensures)
    (rw c.as_slice.ensures.value (search rules))
