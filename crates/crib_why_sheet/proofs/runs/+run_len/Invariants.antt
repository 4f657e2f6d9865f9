use Rattle.std.proofs.Common.{length}
use Rattle.crib_why_sheet.proofs.runs.+run_len.Given as goal

abbrev pub decreases-run_len : goal.decreases-run_len
decreases-run_len l = length l.games.now
