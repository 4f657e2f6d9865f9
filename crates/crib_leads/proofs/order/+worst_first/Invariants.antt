use Rattle.std.proofs.Common.{length}
use Rattle.crib_leads.proofs.order.+worst_first.Given as goal

abbrev pub decreases-worst_first : goal.decreases-worst_first
decreases-worst_first g l = length l.leads.now
