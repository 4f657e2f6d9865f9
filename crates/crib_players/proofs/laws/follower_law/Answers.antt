use Rattle.crib_players.proofs.Followers.{follower}
use Rattle.crib_players.proofs.laws.follower_law.Goals as goal

pub returns : goal.returns
returns c = follower
