use Rattle.std.proofs.Common.{length}
use Rattle.crib_message.proofs.scene.+spot_behind.Given as goal

abbrev pub decreases-spot_behind : goal.decreases-spot_behind
decreases-spot_behind l = length l.sections.now
