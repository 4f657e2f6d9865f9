use Rattle.std.proofs.Common.{length}
use Rattle.crib_sheet.proofs.holes.+put_turns.Given as goal

abbrev pub decreases-put_turns : goal.decreases-put_turns
decreases-put_turns g l = length l.turns.now
