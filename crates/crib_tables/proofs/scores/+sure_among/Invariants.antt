use Rattle.std.proofs.Common.{length}
use Rattle.crib_tables.proofs.scores.+sure_among.Given as goal

abbrev pub decreases-sure_among : goal.decreases-sure_among
decreases-sure_among g l = length l.acts.now
