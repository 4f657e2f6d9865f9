use Rattle.std.proofs.Common.{◌≡◌, ◌+◌, ◌-◌, ◌*◌, ◌++◌, flat_map, length}
use Rattle.crib_why_sheet.specs.WhyRows.{runs_of}
use Rattle.crib_why_sheet.proofs.WhyLines.{lines_of_run}
use Rattle.crib_why_sheet.proofs.rows.+lines.Given as goal

-- the turns that are left fall
abbrev pub decreases-add_lines : goal.decreases-add_lines
decreases-add_lines g l = 3 * (32 - l.turn) + 2

abbrev pub decreases-add_runs : goal.decreases-add_runs
decreases-add_runs g l = 3 * (32 - l.turn) + 1

abbrev pub decreases-add_next : goal.decreases-add_next
decreases-add_next g l = 3 * (32 - l.turn)

-- the lines so far and those of the games that are left
abbrev pub invariant-add_runs-loop-rest : goal.invariant-add_runs-loop-rest
invariant-add_runs-loop-rest g l =
    l.lines.items ++ flat_map (lines_of_run l.problem l.turn l.level) (runs_of l.problem l.turn l.rest)
    ≡ l.fn.lines.items ++ flat_map (lines_of_run l.problem l.turn l.level) (runs_of l.problem l.turn l.fn.games)

abbrev pub decreases-add_runs-loop-rest : goal.decreases-add_runs-loop-rest
decreases-add_runs-loop-rest g l = length l.rest
