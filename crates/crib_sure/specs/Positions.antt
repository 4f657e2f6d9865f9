-- Positions: what the owner knows, with the place of the plan.
use Rattle.std.specs.Prelude.{◌≡◌, List, IsTrue, IsFalse}
use Rattle.std.specs.List.{list_any}
use Rattle.crib_cards.specs.declared.moves.Move.{Move}
use Rattle.crib_play.specs.declared.turns.Turn.TheVariants as turns
use Rattle.crib_play.specs.Record.{count_of}
use Rattle.crib_play.specs.Fitting.{fits_at}
use Rattle.crib_play.specs.History.{Event, Own}
use Rattle.crib_problem.specs.Setup.{Setup}
use Rattle.crib_plan.specs.declared.plan.Node.{Node}
use Rattle.crib_plan.specs.Places.{stated_card}
use Rattle.crib_game.specs.Following.{is_playable_at}
use Rattle.crib_know.specs.Hidden.{CanDoAt, KnowsAfter}
use Rattle.crib_sure.specs.declared.keys.Key.{Key}
use Rattle.crib_sure.specs.HistoryPlaces.{FollowsBy, IsStatedEvent, place_by}

-- a position represents a history: the history follows the plan, the knowledge is what the owner knows after it, and
-- the place is that of the plan after it
pub record StandsAt (problem : Setup) (plan : List Node) (key : Key) (history : List Event) : Type 0 where
  pub knows : KnowsAfter key.know problem history
  pub place : key.place ≡ place_by plan problem.played history
  pub follows : FollowsBy plan problem.played history

-- a move that the plan gives the owner at a position: the owner can make it, and a card is the stated one
abbrev pub MayTakeAt : List Node → Key → Move → Type 0
MayTakeAt plan key what = CanDoAt key.know what × IsStatedEvent plan key.place (Own what)

-- the owner is stuck: they are to move and a card of theirs fits, but no card that they hold and that fits is stated
abbrev pub IsStuckAt : List Node → Key → Type 0
IsStuckAt plan key =
    (key.know.round.asked ≡ turns.Owner)
    × IsTrue (list_any (fits_at (count_of key.know.round.pile)) key.know.own_left)
    × IsFalse (is_playable_at (count_of key.know.round.pile) key.know.own_left (stated_card plan key.place))
