use Rattle.std.proofs.Common.{rules}
use Rattle.crib_run.proofs.Printing.{as_text, more}
use Rattle.crib_sheet.proofs.tally.put_figures.Goals as goal

pub returns : goal.returns
returns g c = as_text (more (more (more c.put_number.ensures c.put.ensures) c.put_number-2.ensures) c.put-2.ensures) (search rules)
