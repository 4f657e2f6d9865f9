use Rattle.crib_show.specs.Extremes.{AreExtremesFor}
use Rattle.rules_tests.proofs.show.kept.answers_from_what_is_kept.Given as goal

abbrev pub invariant-loop-turn : goal.invariant-loop-turn
invariant-loop-turn g l = AreExtremesFor l.worst l.shows
