use Rattle.crib_why.proofs.OneKind.{kind}
use Rattle.crib_why.proofs.laws.kind_law.Goals as goal

pub returns : goal.returns
returns g c = kind _ _
