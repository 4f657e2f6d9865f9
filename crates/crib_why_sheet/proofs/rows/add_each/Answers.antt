use Rattle.crib_why_sheet.proofs.WhyLines.{row_written}
use Rattle.crib_why_sheet.proofs.rows.add_each.Goals as goal

pub loop-index-preserved : goal.loop-index-preserved
loop-index-preserved g c =
    row_written c.args.problem.now c.args.level c.args.names.now.items c.args.games.now c.loop-index.index
    _ _ _ c.loop-index-test.true c.in_ok-add_row.ensures c.loop-index.invariant
