use Rattle.std.proofs.Common.{◌*◌, flat_map, take}
use Rattle.crib_text.specs.Private.Writing.{Appended}
use Rattle.crib_board.specs.Board.{show_line}
use Rattle.crib_board.proofs.lines.append_show.Given as goal

-- the hands so far are written, and there is room for the others
abbrev pub invariant-loop-row : goal.invariant-loop-row
invariant-loop-row g l = record {
  written : Appended l.initial.text l.text (flat_map show_line (take l.row-index l.rows)) (26 * l.row-index);
}
