use Rattle.crib_search.proofs.LawProofs.{sure_law}
use Rattle.crib_search.proofs.laws.sure_law.Goals as goal

pub returns : goal.returns
returns c = sure_law
