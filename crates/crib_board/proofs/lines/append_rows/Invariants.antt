use Rattle.std.proofs.Common.{◌≡◌, ◌*◌, take}
use Rattle.crib_text.specs.Private.Writing.{Appended}
use Rattle.crib_board.specs.Board.{row_lines}
use Rattle.crib_board.proofs.lines.append_rows.Given as goal

-- the rows so far are written, and there is room for the others
abbrev pub invariant-loop-row : goal.invariant-loop-row
invariant-loop-row g l = record {
  number : l.number ≡ l.row-index;
  written : Appended l.initial.text l.text (row_lines 1 (take l.row-index l.rows)) (32 * l.row-index);
}
