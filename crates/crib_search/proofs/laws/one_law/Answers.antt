use Rattle.crib_search.proofs.OneTree.{one_law}
use Rattle.crib_search.proofs.laws.one_law.Goals as goal

pub returns : goal.returns
returns c = one_law
