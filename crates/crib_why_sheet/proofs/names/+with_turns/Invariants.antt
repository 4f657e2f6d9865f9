use Rattle.std.proofs.Common.{length}
use Rattle.crib_why_sheet.proofs.names.+with_turns.Given as goal

abbrev pub decreases-with_turns : goal.decreases-with_turns
decreases-with_turns l = length l.acts.now
