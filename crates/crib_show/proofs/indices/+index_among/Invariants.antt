use Rattle.std.proofs.Common.{length}
use Rattle.crib_show.proofs.indices.+index_among.Given as goal

abbrev pub decreases-index_among : goal.decreases-index_among
decreases-index_among l = length l.counts.now
