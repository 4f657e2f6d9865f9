use Rattle.std.proofs.Common.{arith, rules}
use Rattle.crib_cards.specs.declared.moves.Act.{Act}
use Rattle.crib_text.specs.Spelling.{line_text}
use Rattle.crib_problem.specs.Spelling.{act_line}
use Rattle.crib_run.proofs.Printing.{as_text, more, piece}
use Rattle.crib_sheet.proofs.refutation.put_acts.Goals as goal

pub loop-act-preserved : goal.loop-act-preserved
loop-act-preserved g c =
    let line = more (more c.put_actor.ensures c.put_move.ensures) c.put.ensures in
    piece (λ (act : Act). line_text (act_line act)) _ _ _ (omega arith) c.act-item.is c.loop-act.invariant (as_text line (search rules))
