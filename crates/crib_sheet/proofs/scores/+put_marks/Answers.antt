use Rattle.std.proofs.Common.{◌∙◌, sym}
use Rattle.crib_run.proofs.Printing.{as_text, more}
use Rattle.crib_sheet.proofs.ScoreLines.{marks_from}
use Rattle.crib_sheet.proofs.scores.+put_marks.Goals as goal

pub returns-then-not-are_impossible : goal.returns-then-not-are_impossible
returns-then-not-are_impossible g t c =
    as_text (more (more c.put.ensures c.put_mark.ensures) c.put_marks.ensures)
    (marks_from c.args.marks.now _ c.in-len1-up.len_at_least (sym c.are_impossible.ensures ∙ c.if-not-are_impossible.true))
