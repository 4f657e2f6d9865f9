use Rattle.std.proofs.Common.{length}
use Rattle.crib_sheet.proofs.verdict.figures.+add_digits.Given as goal

abbrev pub decreases-add_digits : goal.decreases-add_digits
decreases-add_digits l = length l.digits.now
