use Rattle.std.proofs.Common.{◌∙◌}
use Rattle.crib_run.proofs.Printing.{as_text, more}
use Rattle.crib_sheet.proofs.PlanBeatenLines.{row_lines_from}
use Rattle.crib_sheet.proofs.verdict.figures.+put_rows.Goals as goal

pub returns-in-len1-up : goal.returns-in-len1-up
returns-in-len1-up g t c =
    as_text (more c.put_line.ensures c.put_rows.ensures)
    (row_lines_from c.args.word.now c.as_slice.result.now c.args.rows.now c.in-len1-up.len_at_least (c.as_slice.ensures.value ∙ c.term_text.ensures))
