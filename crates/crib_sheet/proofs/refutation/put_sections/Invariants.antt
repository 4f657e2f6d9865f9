use Rattle.std.proofs.Common.{take, flat_map}
use Rattle.crib_game.specs.Spelling.{game_text}
use Rattle.crib_run.specs.Prints.{Prints}
use Rattle.crib_sheet.proofs.refutation.put_sections.Given as goal

-- what is put so far
abbrev pub invariant-loop-game : goal.invariant-loop-game
invariant-loop-game g l = Prints (flat_map game_text (take l.game-index l.games)) (g.P.Page.stand l.initial.page) (g.P.Page.stand l.page)
