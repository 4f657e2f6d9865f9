use Rattle.crib_bound.proofs.OpenDeals.{one_more_none}
use Rattle.crib_bound.proofs.weights.no_tables.Goals as goal

pub loop-index-preserved : goal.loop-index-preserved
loop-index-preserved g c = rw c.in_ok-push.ensures.items (one_more_none _ c.loop-index.invariant)
