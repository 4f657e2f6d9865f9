use Rattle.std.proofs.Common.{ap, arith, ◌+◌}
use Rattle.crib_board.specs.Board.{row_lines}
use Rattle.crib_board.proofs.WrittenIsBoard.{all_written, line_more, rows_more}
use Rattle.crib_board.proofs.lines.append_rows.Goals as goal

pub append_row-requires : goal.append_row-requires
append_row-requires g c = omega arith

pub loop-row-preserved : goal.loop-row-preserved
loop-row-preserved g c =
    let number = ap (λ n. n + 1) c.loop-row.invariant.number in record {
      number = number;
      written = line_more _ _ _ _ _ _ _ _ _ c.loop-row.invariant.written c.append_row.ensures
          (rows_more _ _ _ _ c.loop-row-test.true c.row-item.is number) (omega arith);
    }

pub returns : goal.returns
returns g c = all_written _ _ (row_lines 1) _ _ _ c.loop-row.invariant.written c.loop-row-test.false c.loop-row.auto.row-index-end
