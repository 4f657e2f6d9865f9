use Rattle.std.proofs.Common.{length}
use Rattle.crib_sheet.proofs.scores.+put_marks.Given as goal

abbrev pub decreases-put_marks : goal.decreases-put_marks
decreases-put_marks g l = length l.marks.now
