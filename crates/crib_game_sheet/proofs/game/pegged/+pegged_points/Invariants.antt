use Rattle.std.proofs.Common.{length}
use Rattle.crib_game_sheet.proofs.game.pegged.+pegged_points.Given as goal

abbrev pub decreases-pegged_points : goal.decreases-pegged_points
decreases-pegged_points l = length l.rows.now
