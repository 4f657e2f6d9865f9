use Rattle.std.proofs.Common.{arith}
use Rattle.crib_run.proofs.Printing.{more, piece}
use Rattle.crib_sheet.specs.PlanHead.{turn_line}
use Rattle.crib_sheet.proofs.verdict.head.put_turns.Goals as goal

pub loop-act-preserved : goal.loop-act-preserved
unfolding turn_line
loop-act-preserved g c =
    piece (turn_line c.args.dealer) _ _ _ (omega arith) c.act-item.is c.loop-act.invariant
    (more (more (more (more c.put.ensures c.put_role.ensures) c.put-in-loop-act.ensures) c.put_move.ensures) c.put-in-loop-act-2.ensures)
