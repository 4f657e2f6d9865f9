use Rattle.std.proofs.Common.{length}
use Rattle.crib_why_sheet.proofs.groups.+go_on_as.Given as goal

abbrev pub decreases-go_on_as : goal.decreases-go_on_as
decreases-go_on_as l = length l.games.now
