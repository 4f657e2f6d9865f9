-- Players, and when a player is sure. The opening is the visible turns that the problem lists as played.
use Rattle.std.specs.Prelude.{◌≡◌, ℕ, ◌≤◌, Bool, not, ◌&&◌, List, [], ◌∷◌, length, map, Option, Some, IsTrue, IsFalse}
use Rattle.std.specs.List.{list_any}
use Rattle.crib_cards.specs.Sides.{same_side}
use Rattle.crib_cards.specs.Start.{Start, pone_of, Hands}
use Rattle.crib_cards.specs.declared.sides.Side.TheVariants.{Owner}
use Rattle.crib_cards.specs.declared.sides.Dealt.{Dealt}
use Rattle.crib_cards.specs.declared.moves.Move.{Move}
use Rattle.crib_cards.specs.declared.moves.Move.TheVariants as move
use Rattle.crib_cards.specs.declared.moves.Act.{Act}
use Rattle.crib_play.specs.Record.{mover}
use Rattle.crib_play.specs.Score.{is_done}
use Rattle.crib_play.specs.Legal.{letters_of, cards_left, fits, IsLegal}
use Rattle.crib_play.specs.History.{acts_of, event_of}
use Rattle.crib_show.specs.declared.show.outcomes.Outcome.TheVariants.{Reached}
use Rattle.crib_problem.specs.Setup.{Setup, start_of, hands_of, IsDealOf, BeginsAsPlayed}
use Rattle.crib_plan.specs.declared.plan.Node.{Node}
use Rattle.crib_plan.specs.Places.{stated_card}
use Rattle.crib_game.specs.Following.{is_playable}
use Rattle.crib_game.specs.Replay.{is_done_for, outcome_for, play_scores}
use Rattle.crib_sure.specs.HistoryPlaces.{place_by}

-- a player: the card that the owner plays after the visible turns so far, the last one first. The turns have all cards
-- that were shown, with their suits
abbrev pub Player : Type 0
Player = List Act → Option ℕ

-- a player who sees no more of a turn than `look` shows
abbrev pub player_by : {Seen : Type 0} → (Act → Seen) → (List Seen → Option ℕ) → Player
player_by look choice acts = choice (map look acts)

-- the player who follows a plan, and so sees no suits of the opponent's cards
abbrev pub follower_of : Setup → List Node → Player
follower_of problem plan = player_by event_of (λ history. stated_card plan (place_by plan problem.played history))

-- the act of a card of the owner
abbrev pub own_card : ℕ → Act
own_card card = record { side = Owner; what = move.Card card }

-- each card of the owner is the player's, except in the first few acts, which are the opening. The last act is first
abbrev pub AreBy : ℕ → Player → List Act → Type 0
AreBy few player [] = Unit {0}
AreBy few player (act ∷ before) =
    AreBy few player before
    × (few ≤ length before → (card : ℕ) → act ≡ own_card card → player before ≡ Some card)

-- a legal record of a deal of the problem that begins with the opening and is played by the player after it
pub record IsPlayedBy (problem : Setup) (player : Player) (dealt : Dealt) (played : List Move) : Type 0 where
  pub deal : IsDealOf problem dealt
  pub legal : IsLegal (start_of problem) (hands_of problem dealt) played
  pub begins : BeginsAsPlayed problem (acts_of (pone_of (start_of problem)) played)
  pub by : AreBy (length problem.played) player (acts_of (pone_of (start_of problem)) played)

-- whether a player is at a loss after a record: it is not done, it is the owner's turn, a card that they still have
-- fits, but the player plays none that they still have and that fits
abbrev pub is_at_loss : Player → Start → Hands → List Move → Bool
is_at_loss player start hands past =
    not (is_done start (letters_of past)) && same_side (mover (pone_of start) (letters_of past)) Owner
    && list_any (fits past) (cards_left hands Owner past)
    && not (is_playable hands past (player (acts_of (pone_of start) past)))

-- a player is sure: for every deal, the player is at a loss after no legal record of their play, and each one that is
-- done has the outcome Reached
pub record IsSurePlayer (problem : Setup) (player : Player) : Type 0 where
  pub never_at_loss : (dealt : Dealt) (played : List Move) → IsPlayedBy problem player dealt played →
      IsFalse (is_at_loss player (start_of problem) (hands_of problem dealt) played)
  pub reached : (dealt : Dealt) (played : List Move) → IsPlayedBy problem player dealt played →
      IsTrue (is_done_for problem played) → outcome_for problem dealt (play_scores problem played) ≡ Reached
