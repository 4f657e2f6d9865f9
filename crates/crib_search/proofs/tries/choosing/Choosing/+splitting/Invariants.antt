use Rattle.std.proofs.Common.{◌+◌, ◌*◌}
use Rattle.crib_search.proofs.tries.choosing.Choosing.+splitting.Given as goal

abbrev pub decreases-split_at : goal.decreases-split_at
decreases-split_at g l = 2 * l.depth + 1

abbrev pub decreases-try_case : goal.decreases-try_case
decreases-try_case g l = 2 * l.depth
