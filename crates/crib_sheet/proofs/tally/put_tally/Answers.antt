use Rattle.std.proofs.Common.{rules}
use Rattle.crib_run.proofs.Printing.{as_text, more}
use Rattle.crib_sheet.specs.Beaten.{beaten_text}
use Rattle.crib_sheet.proofs.tally.put_tally.Goals as goal

pub returns : goal.returns
unfolding beaten_text
returns g c = as_text (more (more c.put.ensures c.put_figures.ensures) c.put_rows.ensures) (search rules)
