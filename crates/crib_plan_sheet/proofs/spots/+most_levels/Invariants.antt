use Rattle.std.proofs.Common.{length}
use Rattle.crib_plan_sheet.proofs.spots.+most_levels.Given as goal

abbrev pub decreases-most_levels : goal.decreases-most_levels
decreases-most_levels l = length l.places.now
