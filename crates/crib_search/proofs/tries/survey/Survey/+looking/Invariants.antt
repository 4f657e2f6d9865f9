use Rattle.std.proofs.Common.{◌+◌, ◌*◌}
use Rattle.crib_know.specs.Private.Ahead.{turns_ahead}
use Rattle.crib_search.proofs.tries.survey.Survey.+looking.Given as goal

abbrev pub decreases-look_at : goal.decreases-look_at
decreases-look_at g l = 4 * turns_ahead l.know.now + 3

abbrev pub decreases-look_own : goal.decreases-look_own
decreases-look_own g l = 4 * turns_ahead l.know.now + 2

abbrev pub decreases-look_each : goal.decreases-look_each
decreases-look_each g l = 4 * turns_ahead l.know.now + 1

abbrev pub decreases-look_after : goal.decreases-look_after
decreases-look_after g l = 4 * turns_ahead l.know.now

abbrev pub decreases-look_theirs : goal.decreases-look_theirs
decreases-look_theirs g l = 4 * turns_ahead l.know.now
