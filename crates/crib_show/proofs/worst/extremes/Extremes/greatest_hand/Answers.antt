use Rattle.std.proofs.Common.{rules}
use Rattle.crib_show.proofs.worst.extremes.Extremes.greatest_hand.Goals as goal
use Rattle.crib_show.proofs.worst.extremes.Extremes.greatest_hand.Goals.{then-self, else-self}

pub returns-clause-kept : goal.returns-clause-kept
returns-clause-kept c = elim c.if-self.branch [ then-self w ↦ search rules | else-self w ↦ search rules ]
