use Rattle.crib_run.proofs.Printing.{more}
use Rattle.crib_game_sheet.proofs.game.text.put_wins.Goals as goal

pub returns : goal.returns
returns g c = more (more c.put.ensures c.put_role.ensures) c.put-2.ensures
