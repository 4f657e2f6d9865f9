use Rattle.std.proofs.Common.{length}
use Rattle.crib_why_sheet.proofs.page.+widest_play.Given as goal

abbrev pub decreases-widest_play : goal.decreases-widest_play
decreases-widest_play l = length l.lines.now
