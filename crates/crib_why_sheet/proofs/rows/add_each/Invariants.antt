use Rattle.std.proofs.Common.{◌≡◌, ◌∷◌, [], ◌++◌, map, take}
use Rattle.crib_why_sheet.specs.WhyRows.{row_line}
use Rattle.crib_why_sheet.proofs.rows.add_each.Given as goal

abbrev pub invariant-loop-index : goal.invariant-loop-index
invariant-loop-index g l =
    l.lines.items ≡ l.initial.lines.items ++ map (λ game. row_line l.problem (game ∷ []) l.level l.names.items) (take l.index l.games)
