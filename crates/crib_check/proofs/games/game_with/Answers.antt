use Rattle.std.proofs.Common.{arith}
use Rattle.std.proofs.lemmas.Grind.{common_steps}
use Rattle.crib_check.proofs.games.game_with.Goals as goal

pub loop-played-preserved : goal.loop-played-preserved
loop-played-preserved c = grind (arith, common_steps)
