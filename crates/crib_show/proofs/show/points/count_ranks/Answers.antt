use Rattle.crib_show.proofs.CountLemmas.{CountsFirst-more, CountsFirst-room, CountsFirst-all}
use Rattle.crib_show.proofs.show.points.count_ranks.Goals as goal

pub add-requires : goal.add-requires
add-requires c = CountsFirst-room _ _ _ _ c.loop-rank.invariant c.loop-rank-test.true c.requires c.know_rank.ensures

pub loop-rank-init : goal.loop-rank-init
loop-rank-init c = record { counted = c.new-counts.ensures; are_ranks = tt }

pub loop-rank-preserved : goal.loop-rank-preserved
loop-rank-preserved c =
    CountsFirst-more _ _ _ _ _ c.loop-rank.invariant c.loop-rank-test.true c.rank-item.is c.know_rank.ensures c.add.ensures

pub returns-clause-value : goal.returns-clause-value
returns-clause-value c = (CountsFirst-all _ _ _ c.loop-rank.invariant c.loop-rank-test.false).0

pub returns-clause-ranks : goal.returns-clause-ranks
returns-clause-ranks c = (CountsFirst-all _ _ _ c.loop-rank.invariant c.loop-rank-test.false).1
