use Rattle.std.proofs.Common.{length}
use Rattle.crib_leads.proofs.theirs.+add_ranks.Given as goal

abbrev pub decreases-add_ranks : goal.decreases-add_ranks
decreases-add_ranks g l = length l.numbers.now
