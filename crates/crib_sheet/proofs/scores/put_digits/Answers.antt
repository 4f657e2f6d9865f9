use Rattle.std.proofs.Common.{rules, sym, ◌∙◌}
use Rattle.crib_run.proofs.Printing.{as_text, more}
use Rattle.crib_sheet.proofs.scores.put_digits.Goals as goal

pub returns-then-not-are_below : goal.returns-then-not-are_below
returns-then-not-are_below g c =
    as_text (more (more c.put.ensures c.put_each_digit.ensures) c.put-then-not-are_below.ensures)
    (rw (sym c.are_below.ensures ∙ c.if-not-are_below.true) (search rules))
