use Rattle.std.proofs.Common.{arith, rules}
use Rattle.crib_run.proofs.Printing.{as_text, more, piece}
use Rattle.crib_game_sheet.specs.GameText.{combination_line}
use Rattle.crib_game_sheet.proofs.game.counted.put_each.Goals as goal

pub loop-made-preserved : goal.loop-made-preserved
unfolding combination_line
loop-made-preserved g c =
    let line =
    (more (more (more (more (more (more c.put.ensures c.put-in-loop-made.ensures) c.put-in-loop-made-2.ensures) c.put_small.ensures)
    c.put-in-loop-made-3.ensures) c.put_cards.ensures) c.put-in-loop-made-4.ensures) in
    piece combination_line _ _ _ (omega arith) c.made-item.is c.loop-made.invariant (as_text line (search rules))
