use Rattle.std.proofs.Common.{rules}
use Rattle.crib_run.proofs.Printing.{as_text, more}
use Rattle.crib_sheet.proofs.holes.put_pegs.Goals as goal

pub returns-then-not-is_empty : goal.returns-then-not-is_empty
returns-then-not-is_empty g c =
    as_text (more (more (more (more c.put.ensures c.put_small.ensures) c.put-then-not-is_empty.ensures) c.put_small-then-not-is_empty.ensures)
    c.put-then-not-is_empty-2.ensures) (search rules)
