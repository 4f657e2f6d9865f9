use Rattle.std.proofs.Common.{take, flat_map}
use Rattle.crib_run.specs.Prints.{Prints}
use Rattle.crib_game_sheet.specs.GameText.{combination_line}
use Rattle.crib_game_sheet.proofs.game.counted.put_each.Given as goal

-- what is put so far
abbrev pub invariant-loop-made : goal.invariant-loop-made
invariant-loop-made g l = Prints (flat_map (combination_line) (take l.made-index l.found)) (g.P.Page.stand l.initial.page) (g.P.Page.stand l.page)
