use Rattle.std.proofs.Common.{length}
use Rattle.crib_next.proofs.walk.+walk.Given as goal

abbrev pub decreases-walk : goal.decreases-walk
decreases-walk g l = length l.turns.now
