use Rattle.std.proofs.Common.{◌+◌, ◌*◌}
use Rattle.crib_search.proofs.tries.choosing.Choosing.+enriching.Given as goal

abbrev pub decreases-enrich_all : goal.decreases-enrich_all
decreases-enrich_all g l = 2 * l.depth + 1

abbrev pub decreases-enrich : goal.decreases-enrich
decreases-enrich g l = 2 * l.depth
