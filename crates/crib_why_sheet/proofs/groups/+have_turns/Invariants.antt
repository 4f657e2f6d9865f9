use Rattle.std.proofs.Common.{length}
use Rattle.crib_why_sheet.proofs.groups.+have_turns.Given as goal

abbrev pub decreases-have_turns : goal.decreases-have_turns
decreases-have_turns l = length l.games.now
