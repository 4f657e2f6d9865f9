use Rattle.crib_run.proofs.Printing.{more}
use Rattle.crib_game_sheet.specs.GameText.{pegged_line}
use Rattle.crib_game_sheet.proofs.game.pegged.put_pegged.Goals as goal

pub returns : goal.returns
unfolding pegged_line
returns g c =
    rw (c.pegged_points.ensures.value, c.pegged_points-2.ensures.value) at
    (more (more (more (more c.put.ensures c.put_number.ensures) c.put-2.ensures) c.put_number-2.ensures) c.put-3.ensures)
