-- A game with a legal record has a spelling.
use Rattle.std.proofs.Common.{List, length, ap, subst, arith}
use Rattle.std.proofs.lemmas.List.{length-reverse, reverse-reverse}
use Rattle.crib_cards.specs.Start.{pone_of}
use Rattle.crib_cards.specs.declared.moves.Move.{Move}
use Rattle.crib_play.proofs.FilledRecords.{acts_fewer}
use Rattle.crib_play.proofs.RecordBounds.{at_most_29}
use Rattle.crib_problem.specs.Setup.{Setup, IsSetup, start_of, hands_of}
use Rattle.crib_problem.proofs.HonestTurns.{moves_are, moves_back}
use Rattle.crib_problem.proofs.StartLemmas.{hands_dealt}
use Rattle.crib_problem.proofs.Setups.{AllMoves}
use Rattle.crib_game.specs.declared.section.game.Game.{Game}
use Rattle.crib_game.specs.Replay.{IsRecordOf, acts_back}
use Rattle.crib_game.specs.Spelling.{AreSixCards, IsGame}

pub recorded_game : (problem : Setup) (game : Game) (played : List Move) → IsSetup problem → AreSixCards game.opp → IsRecordOf problem game played →
    IsGame game
recorded_game problem game played setup six of =
    let dealt = hands_dealt problem setup game.opp of.deal.deal in
    let most = at_most_29 (start_of problem) (hands_of problem game.opp) played dealt of.legal in
    let fewer = acts_fewer (pone_of (start_of problem)) played in
    let same = ap length of.acts in
    let back = length-reverse game.acts.items in
    let moves : AllMoves (acts_back game) = subst AllMoves of.acts (moves_are problem setup game.opp of.deal.deal played of.legal) in
    record {
      six = six;
      few = omega (arith, most, fewer, same, back);
      moves = subst AllMoves (reverse-reverse game.acts.items) (moves_back (acts_back game) moves);
    }
