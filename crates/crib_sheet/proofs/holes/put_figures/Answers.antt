use Rattle.std.proofs.Common.{rules}
use Rattle.crib_run.proofs.Printing.{as_text, more}
use Rattle.crib_sheet.specs.Holes.{text_with}
use Rattle.crib_sheet.proofs.holes.put_figures.Goals as goal

pub returns : goal.returns
unfolding text_with
returns g c =
    as_text (more (more (more c.put_pegs.ensures c.put_sure.ensures) c.put_hand.ensures) c.put_turns.ensures)
    (rw (c.hand_points-hand.ensures.value, c.as_slice.ensures.value, c.as_slice-2.ensures.value) (search rules))
