-- The laws of bounds.
use Rattle.std.specs.Prelude.{◌≡◌, ◌↔◌, ℕ, ◌*◌, ◌≤◌, List, Option, IsFalse}
use Rattle.crib_cards.specs.declared.sides.Dealt.{Dealt}
use Rattle.crib_cards.specs.declared.sides.Side.TheVariants.{Opponent}
use Rattle.crib_cards.specs.declared.moves.Act.{Act}
use Rattle.crib_play.specs.History.{Event, event_of}
use Rattle.crib_problem.specs.Setup.{Setup, IsSetup, is_stop}
use Rattle.crib_plan.specs.declared.plan.Node.{Node}
use Rattle.crib_sure.specs.Sure.{IsSure}
use Rattle.crib_deals.specs.Exact.{AreExactly}
use Rattle.crib_players.specs.Players.{Player, IsSurePlayer, player_by, follower_of}
use Rattle.crib_beaten.specs.Beaten.{Beats}
use Rattle.crib_bound.specs.BeatenPlayers.{BeatsPlayer}
use Rattle.crib_bound.specs.Worth.{IsStrategy}

-- an act is seen whole
abbrev pub whole : Act → Act
whole act = act

-- a strategy with so many parts of each deal that sees all of a turn is worth at most that many times the deals that
-- beat a player
abbrev pub PlayerLaw : Type 0
PlayerLaw =
    (problem : Setup) (parts value count : ℕ) (player : Player) → IsStrategy whole problem parts value →
    AreExactly (BeatsPlayer problem player) count → value ≤ parts * count

-- one that sees events is worth at most that many times the deals that beat a player who sees no more
abbrev pub RanksLaw : Type 0
RanksLaw =
    (problem : Setup) (parts value count : ℕ) (choice : List Event → Option ℕ) →
    IsStrategy event_of problem parts value →
    AreExactly (BeatsPlayer problem (player_by event_of choice)) count → value ≤ parts * count

-- a strategy that sees events is worth at most that many times the deals that beat a player, also one who sees suits
abbrev pub BoundsPlayers : Setup → Type 0
BoundsPlayers problem =
    (parts value count : ℕ) (player : Player) → IsStrategy event_of problem parts value →
    AreExactly (BeatsPlayer problem player) count → value ≤ parts * count

-- the owner is the pone, and is to win or to reach a hole
abbrev pub IsPoneToReach : Setup → Type 0
IsPoneToReach problem = (problem.dealer ≡ Opponent) × IsFalse (is_stop problem.goal)

-- for such an owner, strategies that see events bound the players who see suits too
abbrev pub SuitsLaw : Type 0
SuitsLaw = (problem : Setup) → IsSetup problem → IsPoneToReach problem → BoundsPlayers problem

-- each is worth at most that many times the deals that beat a plan
abbrev pub PlanLaw : {Seen : Type 0} → (Act → Seen) → Type 0
PlanLaw look =
    (problem : Setup) (parts value count : ℕ) (plan : List Node) → IsStrategy look problem parts value →
    AreExactly (Beats problem plan) count → value ≤ parts * count

-- a deal beats a plan exactly if it beats the player who follows the plan
abbrev pub SameDealsLaw : Type 0
SameDealsLaw =
    (problem : Setup) (plan : List Node) (dealt : Dealt) →
    Beats problem plan dealt ↔ BeatsPlayer problem (follower_of problem plan) dealt

-- if a strategy that sees events is worth something, no plan is sure
abbrev pub NoPlanLaw : Type 0
NoPlanLaw =
    (problem : Setup) (parts value : ℕ) (plan : List Node) → IsStrategy event_of problem parts value → 1 ≤ value →
    ¬ IsSure problem plan

-- if one that sees all of a turn is worth something, no player is sure
abbrev pub NoPlayerLaw : Type 0
NoPlayerLaw =
    (problem : Setup) (parts value : ℕ) (player : Player) → IsStrategy whole problem parts value → 1 ≤ value →
    ¬ IsSurePlayer problem player

-- a number is so many times another
abbrev pub IsMultiple : ℕ → ℕ → Type 0
IsMultiple count unit = (times : ℕ) × (count ≡ times * unit)

-- how many deals beat a plan is a multiple of a unit, whatever the plan
abbrev pub IsUnit : Setup → ℕ → Type 0
IsUnit problem unit =
    (plan : List Node) (count : ℕ) → AreExactly (Beats problem plan) count → IsMultiple count unit

-- how many deals beat a player is a multiple of a unit, whatever the player
abbrev pub IsUnitOfPlayers : Setup → ℕ → Type 0
IsUnitOfPlayers problem unit =
    (player : Player) (count : ℕ) → AreExactly (BeatsPlayer problem player) count → IsMultiple count unit
