use Rattle.std.proofs.Common.{arith}
use Rattle.crib_run.proofs.Printing.{more, piece_at}
use Rattle.crib_game_sheet.specs.GameText.{next_reason}
use Rattle.crib_game_sheet.proofs.game.acts.put_others.Goals as goal

pub loop-reason-preserved : goal.loop-reason-preserved
loop-reason-preserved g c =
    piece_at next_reason _ _ _ (omega arith) c.loop-reason.invariant (more c.put.ensures c.put_reason.ensures)
