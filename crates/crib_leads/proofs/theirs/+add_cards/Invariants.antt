use Rattle.std.proofs.Common.{length}
use Rattle.crib_leads.proofs.theirs.+add_cards.Given as goal

abbrev pub decreases-add_cards : goal.decreases-add_cards
decreases-add_cards g l = length l.cards.now
