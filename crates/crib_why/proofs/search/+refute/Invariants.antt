use Rattle.std.proofs.Common.{◌+◌, ◌-◌, ◌*◌, length}
use Rattle.crib_why.proofs.Found.{AreTried}
use Rattle.crib_why.proofs.Joined.{AreFor}
use Rattle.crib_why.proofs.search.+refute.Given as goal

-- the room for turns that is left in the opening falls at each turn
abbrev pub decreases-refute : goal.decreases-refute
decreases-refute g l = 4 * (32 - length l.problem.now.played) + 3

abbrev pub decreases-refute_own : goal.decreases-refute_own
decreases-refute_own g l = 4 * (32 - length l.problem.now.played) + 2

abbrev pub decreases-refute_theirs : goal.decreases-refute_theirs
decreases-refute_theirs g l = 4 * (32 - length l.problem.now.played) + 2

abbrev pub decreases-refute_with : goal.decreases-refute_with
decreases-refute_with g l = 4 * (32 - length l.problem.now.played) + 1

abbrev pub decreases-refute_longer : goal.decreases-refute_longer
decreases-refute_longer g l = 4 * (32 - length l.problem.now.played)

abbrev pub invariant-refute_own-loop-card : goal.invariant-refute_own-loop-card
invariant-refute_own-loop-card g l = AreFor l.problem l.rest l.games.items

abbrev pub decreases-refute_own-loop-card : goal.decreases-refute_own-loop-card
decreases-refute_own-loop-card g l = length l.rest

abbrev pub invariant-refute_theirs-loop-card : goal.invariant-refute_theirs-loop-card
invariant-refute_theirs-loop-card g l = AreTried l.problem l.rest

abbrev pub decreases-refute_theirs-loop-card : goal.decreases-refute_theirs-loop-card
decreases-refute_theirs-loop-card g l = length l.rest
