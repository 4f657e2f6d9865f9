use Rattle.std.proofs.Common.{map, Some}
use Rattle.std.specs.List.{range_with_len}
use Rattle.crib_text.specs.Private.Writing.{Appended}
use Rattle.crib_board.specs.Board.{hole_byte}
use Rattle.crib_board.proofs.tracks.append_holes.Given as goal

-- the holes so far are written, and there is room for the others
abbrev pub invariant-loop-index : goal.invariant-loop-index
invariant-loop-index g l = record {
  written : Appended l.initial.text l.text (map (hole_byte (Some l.pegs.front) l.pegs.back) (range_with_len l.first l.index)) l.index;
}
