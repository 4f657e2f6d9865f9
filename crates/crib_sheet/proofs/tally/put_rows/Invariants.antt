use Rattle.std.proofs.Common.{take, flat_map}
use Rattle.crib_run.specs.Prints.{Prints}
use Rattle.crib_sheet.specs.Beaten.{row_line}
use Rattle.crib_sheet.proofs.tally.put_rows.Given as goal

-- what is put so far
abbrev pub invariant-loop-row : goal.invariant-loop-row
invariant-loop-row g l = Prints (flat_map row_line (take l.row-index l.rows)) (g.P.Page.stand l.initial.page) (g.P.Page.stand l.page)
