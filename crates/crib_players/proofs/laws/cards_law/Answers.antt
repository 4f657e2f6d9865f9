use Rattle.crib_players.proofs.Longer.{cards}
use Rattle.crib_players.proofs.laws.cards_law.Goals as goal

pub returns : goal.returns
returns c = cards
