use Rattle.std.proofs.Common.{arith, rules}
use Rattle.crib_run.proofs.Printing.{as_text, more, piece}
use Rattle.crib_sheet.specs.Beaten.{row_line}
use Rattle.crib_sheet.proofs.tally.put_rows.Goals as goal

pub loop-row-preserved : goal.loop-row-preserved
unfolding row_line
loop-row-preserved g c =
    let line = more (more c.put_ranks.ensures c.put.ensures) c.put_figures.ensures in
    piece row_line _ _ _ (omega arith) c.row-item.is c.loop-row.invariant (as_text line (search rules))
