use Rattle.crib_bound.proofs.Keepers.{keepers}
use Rattle.crib_bound.proofs.cases.Cases.worth_in.Goals as goal

pub returns-clause-bounds : goal.returns-clause-bounds
returns-clause-bounds g c = keepers c.args.room.now.fixed.items (rw c.as_slice.ensures.value at c.worth_if.ensures.strategy)
