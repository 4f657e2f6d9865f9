-- Games in which the goal is missed with one turn more. The opening is the visible turns that the problem lists as
-- played.
use Rattle.std.specs.Prelude.{◌≡◌, ◌≢◌, List, ◌∷◌, IsTrue}
use Rattle.crib_cards.specs.declared.moves.Act.{Act}
use Rattle.crib_cards.specs.declared.moves.Move.{Move}
use Rattle.crib_play.specs.History.{event_of}
use Rattle.crib_show.specs.declared.show.outcomes.Outcome.TheVariants.{Reached}
use Rattle.crib_problem.specs.Setup.{Setup, played_back}
use Rattle.crib_game.specs.declared.section.game.Game.{Game}
use Rattle.crib_game.specs.Replay.{IsRecordOf, acts_back, is_done_for, outcome_for, play_scores}

-- a game has one turn after the opening, in which the owner sees the same as in an act. Its deal is done then, and the
-- goal is missed
pub record IsMissedWith (problem : Setup) (act : Act) (game : Game) : Type 0 where
  pub turn : Act
  pub alike : event_of turn ≡ event_of act
  pub acts : acts_back game ≡ turn ∷ played_back problem
  pub played : List Move
  pub of_game : IsRecordOf problem game played
  pub done : IsTrue (is_done_for problem played)
  pub missed : outcome_for problem game.opp (play_scores problem played) ≢ Reached
