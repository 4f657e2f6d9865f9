use Rattle.crib_players.proofs.SureTurns.{sure_card}
use Rattle.crib_players.proofs.laws.sure_card_law.Goals as goal

pub returns : goal.returns
returns c = sure_card
