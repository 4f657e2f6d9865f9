use Rattle.std.proofs.Common.{length}
use Rattle.crib_why_sheet.proofs.scores.+spread_of.Given as goal

abbrev pub decreases-spread_of : goal.decreases-spread_of
decreases-spread_of l = length l.games.now
