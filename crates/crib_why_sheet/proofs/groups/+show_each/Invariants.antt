use Rattle.std.proofs.Common.{length}
use Rattle.crib_why_sheet.proofs.groups.+show_each.Given as goal

abbrev pub decreases-show_each : goal.decreases-show_each
decreases-show_each l = length l.games.now
