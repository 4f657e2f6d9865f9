use Rattle.std.proofs.Common.{arith}
use Rattle.std.proofs.lemmas.Bool.Decides.{nat_tests}
use Rattle.crib_show.proofs.demands.Demand.is_impossible.Goals as goal

pub returns : goal.returns
returns c = (
  λ less hand crib few also. grind (arith, nat_tests, c, less, also),
  λ none. grind (arith, nat_tests, c, none 0 c.args.self.crib (omega arith)),
)
