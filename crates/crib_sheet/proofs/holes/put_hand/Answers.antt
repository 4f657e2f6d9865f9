use Rattle.std.proofs.Common.{rules}
use Rattle.crib_run.proofs.Printing.{as_text, more}
use Rattle.crib_sheet.proofs.holes.put_hand.Goals as goal

pub returns-in-Owner : goal.returns-in-Owner
returns-in-Owner g c =
    rw c.in-Owner.is (as_text (more (more c.put.ensures c.put_small.ensures) c.put-in-Owner.ensures) (search rules))

pub returns-then-holes-hand : goal.returns-then-holes-hand
returns-then-holes-hand g c =
    rw c.in-Opponent.is
    (as_text (more (more c.put-then-holes-hand.ensures c.put_small-then-holes-hand.ensures) c.put-then-holes-hand-2.ensures) (search rules))
