use Rattle.std.proofs.Common.{rules}
use Rattle.crib_run.proofs.Printing.{as_text, more}
use Rattle.crib_sheet.proofs.holes.put_zero.Goals as goal

pub returns-then-holes-others : goal.returns-then-holes-others
returns-then-holes-others g c =
    as_text (more (more c.put.ensures c.put_small.ensures) c.put-then-holes-others.ensures) (search rules)
