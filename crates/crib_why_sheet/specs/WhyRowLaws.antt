-- Each row of games that refute every player is of these games.
use Rattle.std.specs.Prelude.{◌≡◌, ℕ, ◌⊎◌, List, [], ◌++◌, Some, slice_get}
use Rattle.crib_cards.specs.declared.moves.Act.{Act}
use Rattle.crib_problem.specs.Setup.{Setup}
use Rattle.crib_game.specs.declared.section.game.Game.{Game}
use Rattle.crib_why_sheet.specs.declared.line.Columns.{Columns}
use Rattle.crib_why_sheet.specs.declared.line.WhyLine.{WhyLine}
use Rattle.crib_why_sheet.specs.WhyPlay.{held_text, shown_names, with_turns}
use Rattle.crib_why_sheet.specs.WhyRows.{play_text, whatever_names, why_lines}

-- a game is among some games
abbrev pub IsAmong : List Game → Game → Type 0
IsAmong games game = (index : ℕ) × (slice_get games index ≡ Some game)

-- a play is that of a game: it names turns of the game, one after another, and may end in what the opponent shows in
-- the rest of the game, whatever the owner plays
pub record IsPlayOf (problem : Setup) (game : Game) (play : List ℕ) : Type 0 where
  pub level : ℕ
  pub before : List Act
  pub named : List Act
  pub rest : List Act
  pub turns : game.acts.items ≡ before ++ (named ++ rest)
  pub text :
      (play ≡ play_text level (with_turns problem.hold [] named) [])
      ⊎ (play ≡ play_text level (whatever_names (with_turns problem.hold [] named) (shown_names rest)) [])

-- the play of a row, and what the opponent held beside it, are those of one game
pub record IsRowOf (problem : Setup) (games : List Game) (line : WhyLine) (columns : Columns) : Type 0 where
  pub game : Game
  pub among : IsAmong games game
  pub play : IsPlayOf problem game line.play.items
  pub held : columns.held.items ≡ held_text problem game

-- each line with columns is a row of one of the games
abbrev pub RowsAreOfGamesLaw : Type 0
RowsAreOfGamesLaw =
    (problem : Setup) (games : List Game) (index : ℕ) (line : WhyLine) (columns : Columns) →
    slice_get (why_lines problem games) index ≡ Some line → line.columns ≡ Some columns →
    IsRowOf problem games line columns
