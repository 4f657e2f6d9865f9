use Rattle.std.proofs.Common.{rules}
use Rattle.crib_show.proofs.worst.extremes.Extremes.greatest_crib.Goals as goal
use Rattle.crib_show.proofs.worst.extremes.Extremes.greatest_crib.Goals.{then-self, else-self}

pub returns-clause-right : goal.returns-clause-right
returns-clause-right c = elim c.if-self.branch [ then-self w ↦ search rules | else-self w ↦ search rules ]
