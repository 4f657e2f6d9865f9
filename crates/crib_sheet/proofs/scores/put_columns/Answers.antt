use Rattle.std.proofs.Common.{rules}
use Rattle.crib_run.proofs.Printing.{as_text, more}
use Rattle.crib_sheet.specs.Scores.{columns_text}
use Rattle.crib_sheet.proofs.scores.put_columns.Goals as goal

pub returns : goal.returns
unfolding columns_text
returns g c = as_text (more (more c.put_digits.ensures c.put_digits-2.ensures) c.put_digits-3.ensures) (search rules)
