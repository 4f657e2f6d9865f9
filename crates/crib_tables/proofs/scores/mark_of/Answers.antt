use Rattle.crib_tables.proofs.SureTurns.{turns_are_own}
use Rattle.crib_tables.proofs.scores.mark_of.Goals as goal

pub sure_among-requires-clause-own : goal.sure_among-requires-clause-own
sure_among-requires-clause-own g c = rw c.own_turns.ensures (turns_are_own c.args.problem.now)
