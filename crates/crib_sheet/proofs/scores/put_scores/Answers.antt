use Rattle.std.proofs.Common.{rules}
use Rattle.crib_run.proofs.Printing.{as_text, more}
use Rattle.crib_sheet.specs.Scores.{scores_text}
use Rattle.crib_sheet.proofs.scores.put_scores.Goals as goal

pub returns : goal.returns
unfolding scores_text
returns g c =
    as_text (more (more c.put_above.ensures c.put_columns.ensures) c.put_rows.ensures)
    (rw (c.as_slice.ensures.value, c.as_slice-2.ensures.value) (search rules))
