use Rattle.std.proofs.Common.{length}
use Rattle.crib_plan_sheet.proofs.now.+is_played.Given as goal

abbrev pub decreases-is_played : goal.decreases-is_played
decreases-is_played l = length l.acts.now
