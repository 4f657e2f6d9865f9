-- Deals that beat a player.
use Rattle.std.specs.Prelude.{◌≢◌, ◌⊎◌, List, IsTrue}
use Rattle.crib_cards.specs.declared.sides.Dealt.{Dealt}
use Rattle.crib_cards.specs.declared.moves.Move.{Move}
use Rattle.crib_show.specs.declared.show.outcomes.Outcome.TheVariants.{Reached}
use Rattle.crib_problem.specs.Setup.{Setup, start_of, hands_of}
use Rattle.crib_game.specs.Replay.{is_done_for, outcome_for, play_scores}
use Rattle.crib_players.specs.Players.{Player, IsPlayedBy, is_at_loss}

-- the goal is missed: the deal is done after a record, and the outcome is another than Reached
pub record IsMissedBy (problem : Setup) (dealt : Dealt) (played : List Move) : Type 0 where
  pub done : IsTrue (is_done_for problem played)
  pub missed : outcome_for problem dealt (play_scores problem played) ≢ Reached

-- a deal beats a player: some legal record of their play misses the goal, or the player is at a loss after it
pub record BeatsPlayer (problem : Setup) (player : Player) (dealt : Dealt) : Type 0 where
  pub played : List Move
  pub by : IsPlayedBy problem player dealt played
  pub failure : IsMissedBy problem dealt played
      ⊎ IsTrue (is_at_loss player (start_of problem) (hands_of problem dealt) played)
