use Rattle.std.proofs.Common.{◌+◌, ◌*◌}
use Rattle.crib_search.proofs.tries.choosing.Choosing.+passing.Given as goal

abbrev pub decreases-pass_all : goal.decreases-pass_all
decreases-pass_all g l = 2 * l.depth + 1

abbrev pub decreases-pass_node : goal.decreases-pass_node
decreases-pass_node g l = 2 * l.depth
