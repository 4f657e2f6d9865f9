use Rattle.crib_players.proofs.Longer.{turn}
use Rattle.crib_players.proofs.laws.turn_law.Goals as goal

pub returns : goal.returns
returns c = turn
