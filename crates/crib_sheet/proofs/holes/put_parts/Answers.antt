use Rattle.std.proofs.Common.{arith}
use Rattle.crib_run.proofs.Printing.{as_text, more}
use Rattle.crib_sheet.proofs.HolesLines.{parts_are}
use Rattle.crib_sheet.proofs.holes.put_parts.Goals as goal

pub returns-in-Opponent : goal.returns-in-Opponent
returns-in-Opponent g c =
    as_text (more (more (more (more c.put.ensures c.put_small.ensures) c.put-in-Opponent.ensures) c.put_small-in-Opponent.ensures)
    c.put-in-Opponent-2.ensures) (parts_are c.args.dealer c.args.hand c.args.holes c.in-Opponent.is (omega (arith, c.if-hand-holes.true)))
