use Rattle.crib_game.proofs.OpeningEnds.{over_is, stays_over, over_after}
use Rattle.crib_game.proofs.follow_laws.over_law.Goals as goal

pub returns : goal.returns
returns c = record { over = over_is; stays = stays_over; after = over_after }
