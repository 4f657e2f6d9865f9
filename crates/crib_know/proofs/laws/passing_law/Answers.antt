use Rattle.crib_know.proofs.CallLemmas.{passing_same}
use Rattle.crib_know.proofs.laws.passing_law.Goals as goal

pub returns : goal.returns
returns c = λ problem history dealt knows. passing_same c.args.know.now problem history knows dealt
