use Rattle.crib_run.proofs.Printing.{more}
use Rattle.crib_game_sheet.proofs.game.text.put_reached.Goals as goal

pub returns-in-Win : goal.returns-in-Win
returns-in-Win g c = rw c.in-Win.is c.put_wins.ensures

pub returns-in-Holes : goal.returns-in-Holes
returns-in-Holes g c = rw c.in-Holes.is c.put.ensures

pub returns-in-Stop : goal.returns-in-Stop
returns-in-Stop g c = rw c.in-Stop.is (more (more c.put-in-Stop.ensures c.put_role.ensures) c.put-in-Stop-2.ensures)
