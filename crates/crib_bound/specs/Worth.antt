-- What a strategy of the opponent is worth. It gives an amount to each deal of a list, and says where the amounts go.
-- What is seen of a turn is given by a function of the act: all of it, or the event, which has no suit of theirs.
use Rattle.std.specs.Prelude.{◌≡◌, ℕ, ◌+◌, ◌≤◌, Bool, ◌&&◌, List, ◌∷◌, map, sum_by, IsTrue, IsFalse}
use Rattle.crib_cards.specs.Sets.{AreDifferent, has}
use Rattle.crib_cards.specs.Deals.{is_in_pack_order}
use Rattle.crib_cards.specs.Start.{pone_of}
use Rattle.crib_cards.specs.declared.sides.Side.TheVariants.{Owner}
use Rattle.crib_cards.specs.declared.sides.Dealt.{Dealt}
use Rattle.crib_cards.specs.declared.moves.Move.{Move}
use Rattle.crib_cards.specs.declared.moves.Act.{Act}
use Rattle.crib_play.specs.Record.{mover}
use Rattle.crib_play.specs.Legal.{letters_of, cards_left, fits, IsLegal}
use Rattle.crib_play.specs.History.{acts_of}
use Rattle.crib_problem.specs.Setup.{Setup, start_of, hands_of, played_back, IsDealOf, BeginsAsPlayed}
use Rattle.crib_game.specs.Replay.{is_done_for}
use Rattle.crib_deals.specs.Exact.{IsIn}
use Rattle.crib_players.specs.Players.{own_card}
use Rattle.crib_bound.specs.BeatenPlayers.{IsMissedBy}

-- a turn is no card of the owner
abbrev pub IsNoCard : {Seen : Type 0} → (Act → Seen) → Seen → Type 0
IsNoCard look turn = (card : ℕ) → ¬ (turn ≡ look (own_card card))

-- a legal record of a deal of the problem that begins with the opening and looks like these turns, the last one first
pub record LooksLike {Seen : Type 0} (look : Act → Seen) (problem : Setup) (turns : List Seen) (dealt : Dealt)
    (played : List Move) : Type 0 where
  pub deal : IsDealOf problem dealt
  pub legal : IsLegal (start_of problem) (hands_of problem dealt) played
  pub begins : BeginsAsPlayed problem (acts_of (pone_of (start_of problem)) played)
  pub seen : map look (acts_of (pone_of (start_of problem)) played) ≡ turns

-- a deal misses the goal with these turns
pub record MissesAfter {Seen : Type 0} (look : Act → Seen) (problem : Setup) (turns : List Seen) (dealt : Dealt)
    : Type 0 where
  pub played : List Move
  pub looks : LooksLike look problem turns dealt played
  pub missed : IsMissedBy problem dealt played

-- after these turns the owner may play just the cards that pass a test, if the opponent has this deal
pub record MayPlayAfter {Seen : Type 0} (look : Act → Seen) (problem : Setup) (turns : List Seen) (may : ℕ → Bool)
    (dealt : Dealt) : Type 0 where
  pub played : List Move
  pub looks : LooksLike look problem turns dealt played
  pub not_done : IsFalse (is_done_for problem played)
  pub asked : mover (pone_of (start_of problem)) (letters_of played) ≡ Owner
  pub cards : (card : ℕ) →
      (has (cards_left (hands_of problem dealt) Owner played) card && fits played card) ≡ may card

-- each deal of a list of which there is some has a property
abbrev pub EachLeft : List Dealt → (Dealt → ℕ) → (Dealt → Type 0) → Type 0
EachLeft deals amounts Has = (dealt : Dealt) → IsIn dealt deals → 1 ≤ amounts dealt → Has dealt

-- some cards may be barred: only those with which the owner may go on after some turns are looked at. Here none is
abbrev pub EachCard : {Seen : Type 0} → List Seen → ℕ → Type 0
EachCard turns card = Unit {0}

-- after these turns, amounts of some deals are worth so much to an opponent of whom an owner plays allowed cards alone:
-- - nothing, of whatever deals;
-- - all that there is, if each deal misses the goal with these turns;
-- - all that there is, if the owner has to play a card, and none that may be played is allowed;
-- - at most the sum of what two parts of the amounts are worth;
-- - what they are worth after a further turn that is no card of the owner;
-- - what they are worth after each allowed card that the owner may play, if there is such a card
pub data IsWorthIf {Seen : Type 0} (look : Act → Seen) (problem : Setup) (Allowed : List Seen → ℕ → Type 0)
    (deals : List Dealt) : List Seen → (Dealt → ℕ) → ℕ → Type 0 where
  Nothing : (turns : List Seen) (amounts : Dealt → ℕ) → IsWorthIf look problem Allowed deals turns amounts 0
  Missed : (turns : List Seen) (amounts : Dealt → ℕ) → EachLeft deals amounts (MissesAfter look problem turns) →
      IsWorthIf look problem Allowed deals turns amounts (sum_by amounts deals)
  Barred : (turns : List Seen) (amounts : Dealt → ℕ) (may : ℕ → Bool) (some : ℕ) → IsTrue (may some) →
      EachLeft deals amounts (MayPlayAfter look problem turns may) →
      ((card : ℕ) → IsTrue (may card) → ¬ Allowed turns card) →
      IsWorthIf look problem Allowed deals turns amounts (sum_by amounts deals)
  Parts : (turns : List Seen) (amounts one other : Dealt → ℕ) (value more least : ℕ) →
      ((dealt : Dealt) → IsIn dealt deals → one dealt + other dealt ≤ amounts dealt) → least ≤ value + more →
      IsWorthIf look problem Allowed deals turns one value → IsWorthIf look problem Allowed deals turns other more →
      IsWorthIf look problem Allowed deals turns amounts least
  Turn : (turns : List Seen) (amounts : Dealt → ℕ) (value : ℕ) (turn : Seen) → IsNoCard look turn →
      IsWorthIf look problem Allowed deals (turn ∷ turns) amounts value →
      IsWorthIf look problem Allowed deals turns amounts value
  Choice : (turns : List Seen) (amounts : Dealt → ℕ) (value : ℕ) (may : ℕ → Bool) (some : ℕ) → IsTrue (may some) →
      Allowed turns some → EachLeft deals amounts (MayPlayAfter look problem turns may) →
      ((card : ℕ) → IsTrue (may card) → Allowed turns card →
      IsWorthIf look problem Allowed deals (look (own_card card) ∷ turns) amounts value) →
      IsWorthIf look problem Allowed deals turns amounts value

-- a strategy of the opponent from the opening on, with at most so many parts of each deal, is worth so much to them if
-- the owner plays allowed cards alone
pub record IsStrategyIf {Seen : Type 0} (look : Act → Seen) (problem : Setup) (Allowed : List Seen → ℕ → Type 0)
    (parts value : ℕ) : Type 0 where
  pub deals : List Dealt
  pub different : AreDifferent deals
  pub in_order : (dealt : Dealt) → IsIn dealt deals → IsTrue (is_in_pack_order dealt)
  pub amounts : Dealt → ℕ
  pub few : (dealt : Dealt) → IsIn dealt deals → amounts dealt ≤ parts
  pub worth : IsWorthIf look problem Allowed deals (map look (played_back problem)) amounts value

-- the same if each card is allowed
abbrev pub IsStrategy : {Seen : Type 0} → (Act → Seen) → Setup → ℕ → ℕ → Type 0
IsStrategy look problem parts value = IsStrategyIf look problem EachCard parts value
