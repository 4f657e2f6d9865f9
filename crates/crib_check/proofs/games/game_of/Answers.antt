use Rattle.std.proofs.Common.{arith}
use Rattle.std.proofs.lemmas.Grind.{common_steps}
use Rattle.crib_check.proofs.games.game_of.Goals as goal

pub loop-act-preserved : goal.loop-act-preserved
loop-act-preserved c = grind (arith, common_steps)

pub loop-event-preserved : goal.loop-event-preserved
loop-event-preserved c = grind (arith, common_steps)
