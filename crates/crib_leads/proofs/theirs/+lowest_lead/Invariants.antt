use Rattle.std.proofs.Common.{length}
use Rattle.crib_leads.proofs.theirs.+lowest_lead.Given as goal

abbrev pub decreases-lowest_lead : goal.decreases-lowest_lead
decreases-lowest_lead g l = length l.cards.now
