use Rattle.std.proofs.Common.{length}
use Rattle.crib_why_sheet.proofs.groups.+hold_each.Given as goal

abbrev pub decreases-hold_each : goal.decreases-hold_each
decreases-hold_each l = length l.games.now
