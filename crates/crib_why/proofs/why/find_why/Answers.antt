use Rattle.std.proofs.Common.{arith}
use Rattle.crib_why.proofs.FewGames.{at_most}
use Rattle.crib_why.proofs.why.find_why.Goals as goal

pub returns-in-Some-clause-few : goal.returns-in-Some-clause-few
returns-in-Some-clause-few g c =
    let few = rw c.in-Some.is at c.in_ok-games.ensures.few in
    omega (arith, few, at_most c.args.problem.now c.start-know.ensures.setup)
