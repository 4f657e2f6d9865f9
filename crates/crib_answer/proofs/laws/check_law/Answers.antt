use Rattle.crib_check.proofs.VerdictAtStart.{ends, sure_goes_on}
use Rattle.crib_answer.proofs.Replies.{holds_law, fails_law, either_law, sure_owed, failing_owed}
use Rattle.crib_answer.proofs.laws.check_law.Goals as goal

pub returns : goal.returns
returns c =
    record { holds = holds_law; fails = fails_law; goes_on = sure_goes_on; ends = ends; either = either_law; sure = sure_owed; failing = failing_owed }
