use Rattle.std.proofs.Common.{flat_map, take}
use Rattle.crib_run.specs.Prints.{Prints}
use Rattle.crib_sheet.specs.Scores.{row_text}
use Rattle.crib_sheet.proofs.scores.put_rows.Given as goal

-- what is put so far
abbrev pub invariant-loop-row : goal.invariant-loop-row
invariant-loop-row g l = Prints (flat_map row_text (take l.row-index l.rows)) (g.P.Page.stand l.initial.page) (g.P.Page.stand l.page)
