use Rattle.std.proofs.Common.{◌+◌, ◌*◌}
use Rattle.crib_search.proofs.tries.choosing.Choosing.+choosing.Given as goal

abbrev pub decreases-choose_all : goal.decreases-choose_all
decreases-choose_all g l = 2 * l.depth + 1

abbrev pub decreases-choose_at : goal.decreases-choose_at
decreases-choose_at g l = 2 * l.depth
