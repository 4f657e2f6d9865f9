use Rattle.std.proofs.Common.{rules}
use Rattle.crib_run.proofs.Printing.{as_text, more}
use Rattle.crib_sheet.specs.Holes.{figure_line}
use Rattle.crib_sheet.proofs.holes.put_figure.Goals as goal

pub returns : goal.returns
unfolding figure_line
returns g c = as_text (more (more c.put_how_many.ensures c.put_parts.ensures) c.put.ensures) (search rules)
