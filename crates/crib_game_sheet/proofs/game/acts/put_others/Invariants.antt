use Rattle.std.proofs.Common.{take, flat_map}
use Rattle.crib_run.specs.Prints.{Prints}
use Rattle.crib_game_sheet.specs.GameText.{next_reason}
use Rattle.crib_game_sheet.proofs.game.acts.put_others.Given as goal

-- what is put so far
abbrev pub invariant-loop-reason : goal.invariant-loop-reason
invariant-loop-reason g l = Prints (flat_map (next_reason) (take l.reason-index l.reasons)) (g.P.Page.stand l.initial.page) (g.P.Page.stand l.page)
