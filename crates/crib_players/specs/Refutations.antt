-- Games that refute every player. The opening is the visible turns that the problem lists as played.
use Rattle.std.specs.Prelude.{◌≡◌, ◌≢◌, ℕ, ◌≤◌, Bool, not, ◌&&◌, List, ◌∷◌, length, reverse, take, Some}
use Rattle.std.specs.Prelude.{slice_get, IsTrue}
use Rattle.crib_cards.specs.Sets.{has}
use Rattle.crib_cards.specs.declared.moves.Move.{Move}
use Rattle.crib_cards.specs.declared.moves.Act.{Act}
use Rattle.crib_play.specs.Legal.{cards_of, fits}
use Rattle.crib_play.specs.History.{filled_moves, moves_of}
use Rattle.crib_show.specs.declared.show.outcomes.Outcome.TheVariants.{Reached}
use Rattle.crib_problem.specs.Setup.{Setup, start_of}
use Rattle.crib_game.specs.declared.section.game.Game.{Game}
use Rattle.crib_game.specs.Replay.{IsRecordOf, is_done_for, outcome_for, play_scores}
use Rattle.crib_players.specs.Players.{own_card}

-- a game in which the goal is missed: its deal is done after its acts, and the outcome is another than Reached
pub record IsMissed (problem : Setup) (game : Game) : Type 0 where
  pub played : List Move
  pub of_game : IsRecordOf problem game played
  pub done : IsTrue (is_done_for problem played)
  pub missed : outcome_for problem game.opp (play_scores problem played) ≢ Reached

-- the first acts of a game, so many, the last one first
abbrev pub acts_before : Game → ℕ → List Act
acts_before game turn = reverse (take turn game.acts.items)

-- one of some games begins with these acts. The last act is first
pub record IsBegun (games : List Game) (acts : List Act) : Type 0 where
  pub index : ℕ
  pub game : Game
  pub among : slice_get games index ≡ Some game
  pub begins : acts_before game (length acts) ≡ acts

-- whether the owner may play a card as the next turn, where the turn is theirs: they hold it, it wasn't played in these
-- acts, and it fits at the count after them. The last act is first
abbrev pub may_play : Setup → List Act → ℕ → Bool
may_play problem before card =
    has problem.hold card && not (has (cards_of (moves_of before)) card)
    && fits (filled_moves (start_of problem) (moves_of before)) card

-- if a game has a card of the owner at this turn, then for each card that the owner may play there some game begins
-- with the same acts and that card. The first turn is 0
abbrev pub HasEachCard : Setup → List Game → Game → ℕ → Type 0
HasEachCard problem games game turn =
    (card other : ℕ) → slice_get game.acts.items turn ≡ Some (own_card card) →
    IsTrue (may_play problem (acts_before game turn) other) → IsBegun games (own_card other ∷ acts_before game turn)

-- games refute every player: there is a game, the goal is missed in each, and wherever the owner plays a card after the
-- opening, some game goes on with each other card that they may play
pub record Refutes (problem : Setup) (games : List Game) : Type 0 where
  pub some : (game : Game) × (slice_get games 0 ≡ Some game)
  pub missed : (index : ℕ) (game : Game) → slice_get games index ≡ Some game → IsMissed problem game
  pub complete : (index turn : ℕ) (game : Game) → slice_get games index ≡ Some game → length problem.played ≤ turn →
      HasEachCard problem games game turn
