use Rattle.crib_search.proofs.PlannedPlaces.{planned_map}
use Rattle.crib_search.proofs.StatedCards.{stated_plan}
use Rattle.crib_search.proofs.tries.planner.make_plan.Goals as goal

pub returns : goal.returns
returns g c =
    planned_map _ _ _ (λ tree states. stated_plan c.args.problem.now c.start-know.ensures.setup tree (states _ c.start-know.ensures)) c.in_ok-first.first
    c.in_ok-first.ensures.planned
