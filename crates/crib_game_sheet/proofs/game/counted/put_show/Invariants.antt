use Rattle.std.proofs.Common.{take, flat_map}
use Rattle.crib_run.specs.Prints.{Prints}
use Rattle.crib_game_sheet.specs.GameText.{counted_text}
use Rattle.crib_game_sheet.proofs.game.counted.put_show.Given as goal

-- what is put so far
abbrev pub invariant-loop-row : goal.invariant-loop-row
invariant-loop-row g l = Prints (flat_map (counted_text l.problem l.dealt) (take l.row-index l.rows)) (g.P.Page.stand l.initial.page) (g.P.Page.stand l.page)
