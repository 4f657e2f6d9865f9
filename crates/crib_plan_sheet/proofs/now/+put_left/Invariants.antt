use Rattle.std.proofs.Common.{length}
use Rattle.crib_plan_sheet.proofs.now.+put_left.Given as goal

abbrev pub decreases-put_left : goal.decreases-put_left
decreases-put_left g l = length l.cards.now
