use Rattle.std.proofs.Common.{length}
use Rattle.crib_command.proofs.command.+first_unknown.Given as goal

abbrev pub decreases-first_unknown : goal.decreases-first_unknown
decreases-first_unknown g l = length l.typed.now
