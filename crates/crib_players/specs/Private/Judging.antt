-- Games judged one by one, and compared act by act. The acts are in the order of play.
use Rattle.std.specs.Prelude.{ℕ, ◌≤◌, Bool, true, false, not, ◌&&◌, ◌||◌, List, [], ◌∷◌, length}
use Rattle.std.specs.Prelude.{Option, Some, None}
use Rattle.std.specs.List.{list_all, list_any}
use Rattle.crib_cards.specs.declared.sides.Side.{Side}
use Rattle.crib_cards.specs.declared.sides.Side.TheVariants.{Owner, Opponent}
use Rattle.crib_cards.specs.declared.moves.Move.{Move}
use Rattle.crib_cards.specs.declared.moves.Move.TheVariants as move
use Rattle.crib_cards.specs.declared.moves.Act.{Act}
use Rattle.crib_play.specs.Fitting.{fits_at}
use Rattle.crib_show.specs.declared.show.outcomes.Outcome.{Outcome}
use Rattle.crib_show.specs.declared.show.outcomes.Outcome.TheVariants.{Reached, Lost, Short}
use Rattle.crib_problem.specs.Setup.{Setup}
use Rattle.crib_game.specs.declared.section.game.Game.{Game}
use Rattle.crib_game.specs.Replay.{same_act, same_move}
use Rattle.crib_players.specs.Players.{own_card}
use Rattle.crib_players.specs.Refutations.{HasEachCard, IsMissed}

-- whether there is an outcome, and it is another than Reached
abbrev pub is_miss : Option Outcome → Bool
is_miss None = false
is_miss (Some Reached) = false
is_miss (Some Lost) = true
is_miss (Some Short) = true

-- the card of a move of the owner
abbrev pub owners_card : Side → Move → Option ℕ
owners_card Owner (move.Card card) = Some card
owners_card Owner move.Go = None
owners_card Opponent what = None

-- whether some act plays this card
abbrev pub is_played : List Act → ℕ → Bool
is_played acts card = list_any (λ (act : Act). same_move act.what (move.Card card)) acts

-- whether a card is not played in some acts and fits at a count
abbrev pub may_follow : List Act → ℕ → ℕ → Bool
may_follow acts count card = not (is_played acts card) && fits_at count card

-- whether acts begin with some others and go on with a card of the owner
abbrev pub goes_on : List Act → List Act → ℕ → Bool
goes_on [] before card = false
goes_on (act ∷ acts) [] card = same_act act (own_card card)
goes_on (act ∷ acts) (first ∷ before) card = same_act first act && goes_on acts before card

-- whether one of some games begins with these acts and this card of the owner
abbrev pub is_begun : List Game → List Act → ℕ → Bool
is_begun games before card = list_any (λ (game : Game). goes_on game.acts.items before card) games

-- whether one of some games goes on with each card of a hold that may follow at this count
abbrev pub has_each : List Game → List ℕ → List Act → ℕ → Bool
has_each games hold before count =
    list_all (λ card. not (may_follow before count card) || is_begun games before card) hold

-- the goal is missed in a game, and at each turn after the opening the games have each card
abbrev pub IsAnswered : Setup → List Game → Game → Type 0
IsAnswered problem games game =
    IsMissed problem game × ((turn : ℕ) → length problem.played ≤ turn → HasEachCard problem games game turn)
