use Rattle.std.proofs.Common.{rules}
use Rattle.crib_run.proofs.Printing.{as_text, more}
use Rattle.crib_sheet.specs.Holes.{turn_line}
use Rattle.crib_sheet.proofs.holes.put_turn.Goals as goal

pub returns : goal.returns
unfolding turn_line
returns g c =
    as_text (more (more (more (more (more c.put.ensures c.put_move.ensures) c.put-2.ensures) c.put_how_many.ensures) c.put_zero.ensures) c.put-3.ensures)
    (search rules)
