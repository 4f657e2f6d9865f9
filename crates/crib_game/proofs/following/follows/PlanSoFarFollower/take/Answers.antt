use Rattle.crib_game.proofs.PlaceSteps.{plan_next}
use Rattle.crib_game.proofs.following.follows.PlanSoFarFollower.take.Goals as goal

pub returns : goal.returns
returns g c first problem before is next = plan_next is next c.place_with-self.ensures
