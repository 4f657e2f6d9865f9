use Rattle.std.proofs.Common.{◌+◌, ◌-◌, ◌*◌, length}
use Rattle.crib_check.proofs.WalkSteps.{HasShownBelow}
use Rattle.crib_check.proofs.walk.Walk.+walk.Given as goal

abbrev pub decreases-walk : goal.decreases-walk
decreases-walk g l = 4 * (29 - length l.self.now.trail.items) + 3

abbrev pub decreases-own_turn : goal.decreases-own_turn
decreases-own_turn g l = 4 * (29 - length l.self.now.trail.items) + 2

abbrev pub decreases-their_turn : goal.decreases-their_turn
decreases-their_turn g l = 4 * (29 - length l.self.now.trail.items) + 2

abbrev pub decreases-they_show : goal.decreases-they_show
decreases-they_show g l = 4 * (29 - length l.self.now.trail.items) + 1

abbrev pub decreases-take : goal.decreases-take
decreases-take g l = 4 * (29 - length l.self.now.trail.items)

abbrev pub invariant-their_turn-loop-index : goal.invariant-their_turn-loop-index
invariant-their_turn-loop-index g l = HasShownBelow g.T.Settled.holds l.fn.self l.key l.index l.self
