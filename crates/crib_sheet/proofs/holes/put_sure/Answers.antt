use Rattle.std.proofs.Common.{rules}
use Rattle.crib_run.proofs.Printing.{as_text, more}
use Rattle.crib_sheet.specs.Holes.{sure_text}
use Rattle.crib_sheet.proofs.holes.put_sure.Goals as goal

pub returns-then-holes-others : goal.returns-then-holes-others
unfolding sure_text
returns-then-holes-others g c = as_text (more c.put.ensures c.put_figure.ensures) (search rules)

pub returns-else-holes-others : goal.returns-else-holes-others
unfolding sure_text
returns-else-holes-others g c = as_text (more c.put_not_exact.ensures c.put_figure-else-holes-others.ensures) (search rules)
