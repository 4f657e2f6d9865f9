use Rattle.crib_problem.specs.Setup.{known_cards}
use Rattle.crib_game.proofs.DealLemmas.{Looked}
use Rattle.crib_game.proofs.replaying.judge.deal_fault.Given as goal

abbrev pub invariant-loop-card : goal.invariant-loop-card
invariant-loop-card l = Looked (known_cards l.problem) l.card-items l.seen l.card-index l.number
