use Rattle.crib_know.proofs.Equality.{same_knows}
use Rattle.crib_know.proofs.laws.equal_law.Goals as goal

pub returns : goal.returns
returns c = same_knows
