use Rattle.crib_show.proofs.CountLemmas.{CountsFirst}
use Rattle.crib_show.proofs.show.points.count_ranks.Given as goal

abbrev pub invariant-loop-rank : goal.invariant-loop-rank
invariant-loop-rank l = CountsFirst l.ranks l.rank-index l.counts
