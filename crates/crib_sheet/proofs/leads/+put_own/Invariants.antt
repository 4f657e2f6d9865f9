use Rattle.std.proofs.Common.{length}
use Rattle.crib_sheet.proofs.leads.+put_own.Given as goal

abbrev pub decreases-put_own : goal.decreases-put_own
decreases-put_own g l = length l.leads.now
