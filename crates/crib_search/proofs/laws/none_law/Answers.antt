use Rattle.crib_search.proofs.LawProofs.{none_law}
use Rattle.crib_search.proofs.laws.none_law.Goals as goal

pub returns : goal.returns
returns c = none_law
