use Rattle.std.proofs.Common.{arith, flat_map}
use Rattle.crib_board.specs.Board.{show_line}
use Rattle.crib_board.proofs.WrittenIsBoard.{all_written, hands_more, line_more}
use Rattle.crib_board.proofs.lines.append_show.Goals as goal

pub append_counted-requires : goal.append_counted-requires
append_counted-requires g c = omega arith

pub loop-row-preserved : goal.loop-row-preserved
loop-row-preserved g c = record {
  written = line_more _ _ _ _ _ _ _ _ _ c.loop-row.invariant.written c.append_counted.ensures (hands_more _ _ _ c.loop-row-test.true) (omega arith);
}

pub returns : goal.returns
returns g c = all_written _ _ (flat_map show_line) _ _ _ c.loop-row.invariant.written c.loop-row-test.false c.loop-row.auto.row-index-end
