use Rattle.std.proofs.Common.{arith}
use Rattle.crib_run.proofs.Printing.{piece_at}
use Rattle.crib_game_sheet.specs.GameText.{counted_text}
use Rattle.crib_game_sheet.proofs.game.counted.put_show.Goals as goal

pub loop-row-preserved : goal.loop-row-preserved
loop-row-preserved g c =
    piece_at (counted_text c.args.problem.now c.args.dealt.now) _ _ _ (omega arith) c.loop-row.invariant c.put_counted.ensures
