use Rattle.std.proofs.Common.{◌+◌, ◌*◌}
use Rattle.crib_know.specs.Private.Ahead.{turns_ahead}
use Rattle.crib_search.proofs.tries.survey.Survey.+tracing.Given as goal

abbrev pub decreases-trace : goal.decreases-trace
decreases-trace g l = 4 * turns_ahead l.know.now + 3

abbrev pub decreases-trace_own : goal.decreases-trace_own
decreases-trace_own g l = 4 * turns_ahead l.know.now + 2

abbrev pub decreases-trace_after : goal.decreases-trace_after
decreases-trace_after g l = 4 * turns_ahead l.know.now

abbrev pub decreases-trace_theirs : goal.decreases-trace_theirs
decreases-trace_theirs g l = 4 * turns_ahead l.know.now
