-- Histories that begin with another, and those of games.
use Rattle.std.specs.Prelude.{◌≡◌, List, ◌++◌, map}
use Rattle.crib_play.specs.History.{Event, event_of}
use Rattle.crib_game.specs.declared.section.game.Game.{Game}
use Rattle.crib_game.specs.Replay.{acts_back}

-- the longer history begins with the other one
abbrev pub Extends : List Event → List Event → Type 0
Extends history longer = (later : List Event) × (longer ≡ later ++ history)

-- what the owner sees of a game
abbrev pub history_of_game : Game → List Event
history_of_game game = map event_of (acts_back game)
