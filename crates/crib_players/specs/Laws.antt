-- The laws of players and refutations. The opening is the visible turns that the problem lists as played.
use Rattle.std.specs.Prelude.{◌≡◌, ℕ, List, [], ◌∷◌, ◌++◌, Some, slice_get, IsTrue}
use Rattle.crib_cards.specs.Start.{pone_of}
use Rattle.crib_cards.specs.declared.sides.Dealt.{Dealt}
use Rattle.crib_cards.specs.declared.moves.Move.{Move}
use Rattle.crib_cards.specs.declared.moves.Act.{Act}
use Rattle.crib_play.specs.declared.turns.Turn.TheVariants as turns
use Rattle.crib_play.specs.Legal.{IsLegal}
use Rattle.crib_play.specs.History.{acts_of}
use Rattle.crib_problem.specs.declared.problem.Version.TheVariants.{Two}
use Rattle.crib_problem.specs.Setup.{Setup, IsSetup, start_of, hands_of, played_back, IsDealOf}
use Rattle.crib_know.specs.Knowledge.{played_events, asked_now}
use Rattle.crib_game.specs.declared.section.game.Game.{Game}
use Rattle.crib_plan.specs.declared.plan.Node.{Node}
use Rattle.crib_sure.specs.Sure.{IsSure}
use Rattle.crib_players.specs.Players.{Player, IsSurePlayer, own_card, follower_of}
use Rattle.crib_players.specs.Refutations.{may_play, Refutes}

-- games that refute leave no player sure
abbrev pub RefutedLaw : Type 0
RefutedLaw =
    (problem : Setup) (games : List Game) (player : Player) → IsSetup problem → Refutes problem games →
    ¬ IsSurePlayer problem player

-- the player who follows a sure plan is sure
abbrev pub FollowerLaw : Type 0
FollowerLaw =
    (problem : Setup) (plan : List Node) → IsSure problem plan → IsSurePlayer problem (follower_of problem plan)

-- games that refute leave no plan sure
abbrev pub NoPlanLaw : Type 0
NoPlanLaw =
    (problem : Setup) (games : List Game) (plan : List Node) → IsSetup problem → Refutes problem games →
    ¬ IsSure problem plan

-- the problem with one more turn in its opening
abbrev pub longer : Setup → Act → Setup
longer problem act = record problem { version = Two; played = problem.played ++ act ∷ [] }

-- games that refute after a turn that is no card of the owner refute before it
abbrev pub TurnLaw : Type 0
TurnLaw =
    (problem : Setup) (act : Act) (games : List Game) → ((card : ℕ) → ¬ (act ≡ own_card card)) →
    Refutes (longer problem act) games → Refutes problem games

-- among some games are those that refute after a card of the owner
pub record HasAfter (problem : Setup) (games : List Game) (card : ℕ) : Type 0 where
  pub others : List Game
  pub refutes : Refutes (longer problem (own_card card)) others
  pub among : (index : ℕ) (game : Game) → slice_get others index ≡ Some game →
      (other : ℕ) × (slice_get games other ≡ Some game)

-- the owner may play a card directly after the opening, where the turn is theirs
abbrev pub MayPlay : Setup → ℕ → Type 0
MayPlay problem card = IsTrue (may_play problem (played_back problem) card)

-- if among some games are those that refute after each card that the owner may play, and no others, these games refute
abbrev pub CardsLaw : Type 0
CardsLaw =
    (problem : Setup) (games : List Game) → (game : Game) × (slice_get games 0 ≡ Some game) →
    ((index : ℕ) (game : Game) → slice_get games index ≡ Some game →
    (card : ℕ) × (after : HasAfter problem games card) × (other : ℕ) × (slice_get after.others other ≡ Some game)) →
    ((card : ℕ) → MayPlay problem card → HasAfter problem games card) → Refutes problem games

-- if the owner is to move after the opening, and some player is sure after a card that the owner may play there, some
-- player is sure before it
abbrev pub SureCardLaw : Type 0
SureCardLaw =
    (problem : Setup) (card : ℕ) (player : Player) → IsSetup problem →
    asked_now problem (played_events problem) ≡ turns.Owner → MayPlay problem card →
    IsSurePlayer (longer problem (own_card card)) player → (other : Player) × IsSurePlayer problem other

-- an act can come next: some deal of the problem has a legal record whose visible turns are the opening and this act
pub record CanComeNext (problem : Setup) (act : Act) : Type 0 where
  pub dealt : Dealt
  pub played : List Move
  pub deal : IsDealOf problem dealt
  pub legal : IsLegal (start_of problem) (hands_of problem dealt) played
  pub shows : acts_of (pone_of (start_of problem)) played ≡ act ∷ played_back problem

-- if after each act that can come next some player is sure, some player is sure before it. After an act that ends the
-- deal, a player is sure if each record that ends so has the outcome Reached
abbrev pub SureTurnLaw : Type 0
SureTurnLaw =
    (problem : Setup) → IsSetup problem →
    ((act : Act) → CanComeNext problem act → (player : Player) × IsSurePlayer (longer problem act) player) →
    (other : Player) × IsSurePlayer problem other
