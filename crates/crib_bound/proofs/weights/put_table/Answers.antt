use Rattle.std.proofs.Common.{None, Some, refl, sym, arith}
use Rattle.crib_bound.specs.Private.Walks.{IsTableAt}
use Rattle.crib_bound.proofs.OpenDeals.{set_each}
use Rattle.crib_bound.proofs.weights.put_table.Goals as goal

pub returns-then-index-len : goal.returns-then-index-len
returns-then-index-len g c = λ are.
    set_each (IsTableAt c.args.table.problem) c.args.tables.now.items c.args.index (Some c.args.table) None
    (omega (arith, c.if-index-len.true, c.len.ensures)) (refl, sym c.requires) are
