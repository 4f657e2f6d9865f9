use Rattle.std.proofs.Common.{rules}
use Rattle.crib_run.proofs.Printing.{as_text, more}
use Rattle.crib_sheet.specs.Holes.{not_exact_text}
use Rattle.crib_sheet.proofs.holes.put_not_exact.Goals as goal

pub returns : goal.returns
unfolding not_exact_text
returns g c =
    as_text (more (more (more (more (more (more c.put.ensures c.put_how_many.ensures) c.put-2.ensures) c.put_small.ensures) c.put-3.ensures)
    c.put_small-2.ensures) c.put-4.ensures) (search rules)
