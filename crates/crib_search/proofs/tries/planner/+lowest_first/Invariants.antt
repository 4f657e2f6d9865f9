use Rattle.std.proofs.Common.{length}
use Rattle.crib_search.proofs.tries.planner.+lowest_first.Given as goal

abbrev pub decreases-lowest_first : goal.decreases-lowest_first
decreases-lowest_first g l = length l.cards
