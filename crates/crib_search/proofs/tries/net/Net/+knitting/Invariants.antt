use Rattle.std.proofs.Common.{◌+◌, ◌*◌}
use Rattle.crib_search.proofs.tries.net.Net.+knitting.Given as goal

abbrev pub decreases-knit_all : goal.decreases-knit_all
decreases-knit_all g l = 3 * l.depth

abbrev pub decreases-knit_edge : goal.decreases-knit_edge
decreases-knit_edge g l = 3 * l.depth + 1

abbrev pub decreases-knit_place : goal.decreases-knit_place
decreases-knit_place g l = 3 * l.depth + 2
