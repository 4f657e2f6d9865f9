use Rattle.std.proofs.Common.{length}
use Rattle.crib_bound.proofs.path.+is_allowed.Given as goal

abbrev pub decreases-is_allowed : goal.decreases-is_allowed
decreases-is_allowed l = length l.fixed.now
