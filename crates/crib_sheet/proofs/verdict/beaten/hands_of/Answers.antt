use Rattle.std.proofs.Common.{◌^◌, ◌<◌, arith}
use Rattle.crib_sheet.proofs.HeadColumns.{aligned_others, aligned_rows}
use Rattle.crib_sheet.proofs.RowColumns.{narrow_rows}
use Rattle.crib_sheet.proofs.verdict.beaten.hands_of.Goals as goal

pub returns-then-tally-clause-bytes : goal.returns-then-tally-clause-bytes
returns-then-tally-clause-bytes g c = (omega arith, omega arith)

pub returns-else-tally-clause-bytes : goal.returns-else-tally-clause-bytes
returns-else-tally-clause-bytes g c = (omega arith, omega arith)

pub returns-else-tally-clause-right : goal.returns-else-tally-clause-right
returns-else-tally-clause-right g c plan is =
    let rows = c.rows_of.result.rows.items in
    let others = c.rows_of.result.others in
    let beaten = c.args.tally.now.beaten in
    let narrow = narrow_rows rows c.rows_of.ensures.narrow in
    let few : beaten < 10 ^ 9 = omega arith in (
      omega arith,
      record {
        exact = c.rows_of.ensures.exact plan is;
        best_first = c.rows_of.ensures.best_first;
        narrow = narrow;
        aligned = aligned_rows rows others beaten narrow c.rows_of.ensures.adds_up few;
        others_aligned = aligned_others others (omega (arith, c.rows_of.ensures.adds_up, few));
      },
    )
