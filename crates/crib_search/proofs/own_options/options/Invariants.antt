use Rattle.crib_search.proofs.CardsToTry.{AreOptions}
use Rattle.crib_search.proofs.own_options.options.Given as goal

abbrev pub invariant-loop-card : goal.invariant-loop-card
invariant-loop-card l = AreOptions l.know l.card-items l.card-index l.len l.cards
