use Rattle.std.proofs.Common.{◌+◌, ◌*◌}
use Rattle.crib_deals.proofs.ListedHolds.{AreListedBelow}
use Rattle.crib_deals.proofs.holds.list_holds.Given as goal

abbrev pub invariant-loop-front : goal.invariant-loop-front
invariant-loop-front l = record { listed : AreListedBelow l.fn.know l.fn.cribs l.fn.ranks (16 * l.front-index) l.holds.items }

abbrev pub invariant-loop-back : goal.invariant-loop-back
invariant-loop-back l = record { listed : AreListedBelow l.fn.know l.fn.cribs l.fn.ranks (16 * l.initial.front-index + l.back-index) l.holds.items }
