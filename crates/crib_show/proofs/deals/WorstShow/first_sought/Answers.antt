use Rattle.std.proofs.Common.{arith, sym, subst}
use Rattle.crib_show.specs.Demands.{IsFirstMissingOrNone}
use Rattle.crib_show.proofs.FirstListed.{first_listed}
use Rattle.crib_show.proofs.deals.WorstShow.first_sought.Goals as goal

pub returns : goal.returns
returns c =
    subst (IsFirstMissingOrNone c.args.self.now c.args.sought.demand) (sym c.first_from.ensures.value)
    (first_listed c.args.self.now c.args.sought (c.first_from.ensures.set (omega arith)) c.requires.sought)
