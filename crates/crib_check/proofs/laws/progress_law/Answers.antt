use Rattle.crib_check.proofs.VerdictAtStart.{ends, sure_goes_on}
use Rattle.crib_check.proofs.laws.progress_law.Goals as goal

pub returns : goal.returns
returns c = record { goes_on = sure_goes_on; ends = ends }
