use Rattle.std.proofs.Common.{length}
use Rattle.crib_deals.proofs.throws.+throws_below.Given as goal

abbrev pub decreases-throws_below : goal.decreases-throws_below
decreases-throws_below l = length l.cards.now
