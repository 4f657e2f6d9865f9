use Rattle.std.proofs.Common.{arith}
use Rattle.crib_run.proofs.Printing.{piece_at}
use Rattle.crib_sheet.specs.Scores.{digit_text}
use Rattle.crib_sheet.proofs.scores.put_each_digit.Goals as goal

pub loop-score-preserved : goal.loop-score-preserved
loop-score-preserved g c =
    piece_at (digit_text c.args.least c.args.place) _ _ _ (omega (arith, c.loop-score-test.true)) c.loop-score.invariant c.put_digit.ensures
