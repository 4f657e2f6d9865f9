use Rattle.crib_run.proofs.Printing.{more}
use Rattle.crib_sheet.proofs.scores.put_turn.Goals as goal

pub returns : goal.returns
returns g c = more c.put_actor.ensures c.put_move.ensures
