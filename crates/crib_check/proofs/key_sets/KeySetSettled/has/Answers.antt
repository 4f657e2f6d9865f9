use Rattle.crib_check.proofs.Table.{without_sight}
use Rattle.crib_check.proofs.key_sets.KeySetSettled.has.Goals as goal

pub returns-in_default : goal.returns-in_default
returns-in_default g c =
    without_sight _ c.args.self.now c.self.view_is c.self.invariant c.args.key.now _ c.sight.ensures c.in_default.ensures.none
