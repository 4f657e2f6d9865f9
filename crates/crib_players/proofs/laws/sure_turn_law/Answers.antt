use Rattle.crib_players.proofs.SureTurns.{sure_turn}
use Rattle.crib_players.proofs.laws.sure_turn_law.Goals as goal

pub returns : goal.returns
returns c = sure_turn
