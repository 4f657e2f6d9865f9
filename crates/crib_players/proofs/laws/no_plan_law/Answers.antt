use Rattle.crib_players.proofs.Followers.{no_plan}
use Rattle.crib_players.proofs.laws.no_plan_law.Goals as goal

pub returns : goal.returns
returns c = no_plan
