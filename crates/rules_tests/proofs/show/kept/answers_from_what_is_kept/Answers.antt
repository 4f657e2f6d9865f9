use Rattle.rules_tests.proofs.show.kept.answers_from_what_is_kept.Goals as goal

pub loop-turn-init : goal.loop-turn-init
loop-turn-init g c = c.new-shows.ensures c.twos_against-worst.result.unseen c.twos_against-worst.result.fixed
