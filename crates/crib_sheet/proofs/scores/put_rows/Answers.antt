use Rattle.std.proofs.Common.{arith}
use Rattle.crib_run.proofs.Printing.{piece}
use Rattle.crib_sheet.specs.Scores.{row_text}
use Rattle.crib_sheet.proofs.scores.put_rows.Goals as goal

pub loop-row-preserved : goal.loop-row-preserved
loop-row-preserved g c =
    piece row_text _ _ _ (omega arith) c.row-item.is c.loop-row.invariant c.put_row.ensures
