use Rattle.std.proofs.Common.{◌≡◌, []}
use Rattle.std.specs.Vec.Iter.{into_iter_items}
use Rattle.crib_why_sheet.specs.WhyRows.{with_different}
use Rattle.crib_why_sheet.proofs.rows.different_games.Given as goal

abbrev pub invariant-loop-game : goal.invariant-loop-game
invariant-loop-game g l = with_different l.problem l.kept.items (into_iter_items l.game-iterator) ≡ with_different l.problem [] l.fn.games.items
