-- What the walk of the code finds at a position. The opening is the visible turns that the problem lists as played.
use Rattle.std.specs.Prelude.{◌≡◌, ℕ, ◌+◌, ◌<◌, ◌≤◌, List, ◌∷◌, length, Option, Some, None}
use Rattle.crib_cards.specs.Letters.{letter_index}
use Rattle.crib_cards.specs.declared.letters.Letter.{Letter}
use Rattle.crib_cards.specs.declared.sides.Dealt.{Dealt}
use Rattle.crib_play.specs.History.{Event, Theirs}
use Rattle.crib_problem.specs.Setup.{Setup, played_back}
use Rattle.crib_plan.specs.declared.plan.Node.{Node}
use Rattle.crib_know.specs.Hidden.{CanShow}
use Rattle.crib_game.specs.declared.section.game.Game.{Game}
use Rattle.crib_game.specs.Replay.{acts_back}
use Rattle.crib_sure.specs.declared.keys.Key.{Key}
use Rattle.crib_check.specs.declared.failure.Failure.{Failure}
use Rattle.crib_check.specs.declared.trails.Event.{Event as TrailEvent}
use Rattle.crib_check.specs.Private.Trails.{later_of_trail}
use Rattle.crib_sure.specs.Positions.{StandsAt}
use Rattle.crib_check.specs.Private.Positions.{HoldsFrom, IsSettled, IsFirstFrom}
use Rattle.crib_sure.specs.Private.Suits.{acts_in_suits}

-- the game of a deal and a trail: its acts are the opening, and then those of the trail
pub record IsGameOf (problem : Setup) (dealt : Dealt) (trail : List TrailEvent) (game : Game) : Type 0 where
  pub deal : game.opp ≡ dealt
  pub acts : acts_back game ≡ acts_in_suits dealt.hold (played_back problem) (later_of_trail trail)

-- the walk stopped after the events of a trail. The game of the deal and this trail is the first failing game that goes
-- on from the history
pub record IsStoppedBy
    (problem : Setup) (plan : List Node) (history : List Event) (trail : List TrailEvent) (failure : Failure)
    : Type 0 where
  pub room : length problem.played + length trail ≤ 32
  pub first : (game : Game) → IsGameOf problem failure.dealt trail game →
      IsFirstFrom problem plan history game failure.ending

-- what the walk finds at a position that a history led to: the position is settled, or here is the first failing game
abbrev pub IsFoundFrom : Setup → List Node → Key → List Event → List TrailEvent → Option Failure → Type 0
IsFoundFrom problem plan key history trail None = IsSettled problem plan key
IsFoundFrom problem plan key history trail (Some failure) = IsStoppedBy problem plan history trail failure

-- the letters before an index are settled: for each of them that can be shown, no failing game goes on from the history
-- with that letter
abbrev pub IsSettledBelow : Setup → List Node → Key → ℕ → Type 0
IsSettledBelow problem plan key index =
    (history : List Event) (letter : Letter) → StandsAt problem plan key history → CanShow problem history letter →
    letter_index letter < index → HoldsFrom problem plan (Theirs letter ∷ history)

-- what the walk finds after the letters before an index: they are settled, or here is the first failing game
abbrev pub IsFoundBelow : Setup → List Node → Key → ℕ → List Event → List TrailEvent → Option Failure → Type 0
IsFoundBelow problem plan key index history trail None = IsSettledBelow problem plan key index
IsFoundBelow problem plan key index history trail (Some failure) = IsStoppedBy problem plan history trail failure
