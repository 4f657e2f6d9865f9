use Rattle.std.proofs.Common.{length}
use Rattle.crib_show.proofs.worst.hands.+rank_at.Given as goal

abbrev pub decreases-rank_at : goal.decreases-rank_at
decreases-rank_at l = length l.counts.now
