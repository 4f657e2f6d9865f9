use Rattle.std.proofs.Common.{◌++◌, arith, codes, rules}
use Rattle.crib_cards.specs.declared.moves.Act.{Act}
use Rattle.crib_run.proofs.Printing.{as_text, more, piece}
use Rattle.crib_sheet.specs.Scores.{turn_text}
use Rattle.crib_sheet.proofs.scores.put_more_turns.Goals as goal

pub loop-act-preserved : goal.loop-act-preserved
loop-act-preserved g c =
    piece (λ (act : Act). codes ", " ++ turn_text act) _ _ _ (omega arith) c.act-item.is c.loop-act.invariant
    (as_text (more c.put.ensures c.put_turn.ensures) (search rules))
