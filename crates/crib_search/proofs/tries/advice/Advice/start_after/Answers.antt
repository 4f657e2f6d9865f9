use Rattle.crib_cards.specs.declared.moves.Move.TheVariants as move
use Rattle.crib_play.specs.History.{Own}
use Rattle.crib_search.proofs.FoundAfterTurns.{goes_on}
use Rattle.crib_search.proofs.tries.advice.Advice.start_after.Goals as goal

pub start_with-requires : goal.start_with-requires
start_with-requires g c = record {
  here =
      (goes_on c.args.know.now c.copy-after.result c.own_play.new.self (Own (move.Card c.args.card)) c.copy-after.ensures c.own_play.ensures
      c.args.problem.now c.requires.turn.here).0;
}
