use Rattle.std.proofs.Common.{◌≡◌, ◌++◌}
use Rattle.std.specs.Vec.Iter.{into_iter_items}
use Rattle.crib_why.proofs.search.join.Given as goal

abbrev pub invariant-loop-game : goal.invariant-loop-game
invariant-loop-game g l = l.games.items ++ into_iter_items l.game-iterator ≡ l.fn.games.items ++ l.fn.more.items
