use Rattle.std.proofs.Common.{length}
use Rattle.crib_why_sheet.proofs.page.+widest_held.Given as goal

abbrev pub decreases-widest_held : goal.decreases-widest_held
decreases-widest_held l = length l.lines.now
