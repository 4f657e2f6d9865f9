use Rattle.std.proofs.Common.{length}
use Rattle.crib_why_sheet.proofs.groups.+are_all_alike.Given as goal

abbrev pub decreases-are_all_alike : goal.decreases-are_all_alike
decreases-are_all_alike l = length l.acts.now
