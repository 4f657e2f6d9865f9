use Rattle.std.proofs.Common.{length}
use Rattle.crib_why_sheet.proofs.groups.+reads_like_any.Given as goal

abbrev pub decreases-reads_like_any : goal.decreases-reads_like_any
decreases-reads_like_any l = length l.others.now
