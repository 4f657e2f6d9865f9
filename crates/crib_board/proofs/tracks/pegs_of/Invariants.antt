use Rattle.std.proofs.Common.{◌∷◌, ◌++◌, map, reverse, take}
use Rattle.crib_board.specs.Board.{score_for, score_after, score_shown}
use Rattle.crib_board.specs.Private.Pegs.{ArePegs}
use Rattle.crib_board.proofs.tracks.pegs_of.Given as goal

-- the pegs are where the acts so far have put them
abbrev pub invariant-loop-row : goal.invariant-loop-row
invariant-loop-row l = record {
  pegs : ArePegs l.pegs (reverse (score_for l.side l.fn.scores ∷ map (score_after l.side) (take l.row-index l.report.rows.items)));
}

-- the pegs are where the acts, and the counted hands so far, have put them
abbrev pub invariant-loop-hand : goal.invariant-loop-hand
invariant-loop-hand l = record {
  pegs : ArePegs l.pegs (reverse ((score_for l.side l.fn.scores ∷ map (score_after l.side) l.report.rows.items)
      ++ map (score_shown l.side) (take l.hand-index l.report.show.items)));
}
