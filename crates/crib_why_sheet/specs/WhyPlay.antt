-- How a game of a refutation reads: the names of its turns, what the opponent held, and the scores at its end.
use Rattle.std.specs.Prelude.{ℕ, ◌-◌, ◌==◌, nat_lt, min, max, Bool, true, false, not, ◌&&◌, ◌||◌, List, [], ◌∷◌, ◌++◌}
use Rattle.std.specs.Prelude.{length, flat_map, slice_get, Option, Some, None, Result, Ok, Err, bytes_eq, codes}
use Rattle.std.specs.Prelude.{if◌then◌else◌}
use Rattle.std.specs.List.{list_any}
use Rattle.crib_cards.specs.Cards.{jack, rank_of, suit_of}
use Rattle.crib_cards.specs.CardText.{card_text, rank_letter}
use Rattle.crib_cards.specs.Sets.{count_rank}
use Rattle.crib_cards.specs.Sides.{same_side}
use Rattle.crib_cards.specs.declared.moves.Act.{Act}
use Rattle.crib_cards.specs.declared.moves.Move.{Move}
use Rattle.crib_cards.specs.declared.moves.Move.TheVariants as move
use Rattle.crib_cards.specs.declared.sides.Dealt.{Dealt}
use Rattle.crib_cards.specs.declared.sides.Scores.{Scores}
use Rattle.crib_cards.specs.declared.sides.Side.{Side}
use Rattle.crib_cards.specs.declared.sides.Side.TheVariants.{Owner, Opponent}
use Rattle.crib_show.specs.Show.{are_of_suit}
use Rattle.crib_show.specs.declared.show.outcomes.ShowRow.{ShowRow}
use Rattle.crib_text.specs.Spelling.{space}
use Rattle.crib_problem.specs.Setup.{Setup}
use Rattle.crib_game.specs.Replay.{replay_result}
use Rattle.crib_game.specs.declared.fault.GameFault.{GameFault}
use Rattle.crib_game.specs.declared.replaying.report.Report.{Report}
use Rattle.crib_game.specs.declared.section.game.Game.{Game}
use Rattle.crib_why_sheet.specs.declared.line.Spread.{Spread}

-- ---- turns

-- the letter of a card's rank
abbrev pub rank_name : ℕ → List ℕ
rank_name card = rank_letter (rank_of card) ∷ []

-- a card of the owner: only its rank if they were dealt more cards of that rank
abbrev pub own_name : List ℕ → ℕ → List ℕ
own_name hold card = if nat_lt 1 (count_rank (rank_of card) hold) then rank_name card else card_text card

-- the name of a turn: `AC`, `A`, `they A`, `you go` or `they go`
abbrev pub turn_name : List ℕ → Side → Move → List ℕ
turn_name hold Owner (move.Card card) = own_name hold card
turn_name hold Owner move.Go = codes "you go"
turn_name hold Opponent (move.Card card) = codes "they " ++ rank_name card
turn_name hold Opponent move.Go = codes "they go"

-- whether two turns are alike: they have the same name
abbrev pub are_alike : Setup → Act → Act → Bool
are_alike problem act other =
    bytes_eq (turn_name problem.hold act.side act.what) (turn_name problem.hold other.side other.what)

-- names with one more, after a comma if it is not the first
abbrev pub joined : List ℕ → List ℕ → List ℕ
joined [] name = name
joined (byte ∷ names) name = (byte ∷ names) ++ codes ", " ++ name

-- names with those of some turns
abbrev pub with_turns : List ℕ → List ℕ → List Act → List ℕ
with_turns hold names [] = names
with_turns hold names (act ∷ acts) = with_turns hold (joined names (turn_name hold act.side act.what)) acts

-- the rank of a card that the opponent shows, after a space
abbrev pub shown_name : Side → Move → List ℕ
shown_name Opponent (move.Card card) = space ∷ rank_name card
shown_name Opponent move.Go = []
shown_name Owner what = []

-- the ranks that the opponent shows in some turns, each after a space
abbrev pub shown_names : List Act → List ℕ
shown_names acts = flat_map (λ act. shown_name act.side act.what) acts

-- ---- what the opponent held

-- whether all of some cards are of one suit
abbrev pub is_flush : List ℕ → Bool
is_flush [] = false
is_flush (card ∷ cards) = are_of_suit card cards

-- a card: with its suit if it is counted in a flush or as the jack of the starter's suit, otherwise only its rank
abbrev pub held_name : Bool → Bool → ℕ → ℕ → List ℕ
held_name counted flush starter card =
    if counted && (flush || ((rank_of card == jack) && (suit_of card == suit_of starter))) then card_text card
    else rank_name card

-- cards, each after a space
abbrev pub held_names : Bool → Bool → ℕ → List ℕ → List ℕ
held_names counted flush starter cards = flat_map (λ card. space ∷ held_name counted flush starter card) cards

-- whether the opponent's hand is counted in a show
abbrev pub is_hand_counted : List ShowRow → Bool
is_hand_counted show = list_any (λ row. not row.crib && same_side row.side Opponent) show

-- the cards that the opponent threw to a counted crib with this flush, in brackets: ` (2 7)`
abbrev pub thrown_text : Bool → ℕ → List ℕ → List ℕ
thrown_text flush starter [] = []
thrown_text flush starter (card ∷ cards) =
    codes " (" ++ held_name true flush starter card ++ held_names true flush starter cards ++ codes ")"

-- what the opponent held, and what they threw if the crib was counted
unfoldable pub held_with : Setup → Dealt → List ShowRow → List ℕ
held_with problem dealt show =
    held_names (is_hand_counted show) (is_flush dealt.hold) problem.starter dealt.hold
    ++ (if list_any (λ row. row.crib) show
    then thrown_text (are_of_suit problem.starter (problem.thrown ++ dealt.throw)) problem.starter dealt.throw
    else [])

-- what the opponent held by the replay of a game: nothing if it is refused
abbrev pub held_by : Setup → Dealt → Result Report GameFault → List ℕ
held_by problem dealt (Ok report) = held_with problem dealt report.show.items
held_by problem dealt (Err fault) = []

-- what the opponent held in a game
abbrev pub held_text : Setup → Game → List ℕ
held_text problem game = held_by problem game.opp (replay_result problem game)

-- ---- the scores

-- the scores of a counted hand, or those after the play
abbrev pub scores_or : Scores → Option ShowRow → Scores
scores_or scores None = scores
scores_or scores (Some row) = row.scores

-- the scores after the last counted hand
abbrev pub final_scores : Report → Scores
final_scores report = scores_or report.scores (slice_get report.show.items (length report.show.items - 1))

-- the scores of one more game
abbrev pub spread_with : Scores → Option Spread → Spread
spread_with scores None = record { least = scores; most = scores }
spread_with scores (Some spread) = record {
  least = record {
    owner = min scores.owner spread.least.owner;
    opponent = min scores.opponent spread.least.opponent;
  };
  most = record {
    owner = max scores.owner spread.most.owner;
    opponent = max scores.opponent spread.most.opponent;
  };
}

-- the scores of one more game by its replay: a refused game has none
abbrev pub spread_by : Result Report GameFault → Option Spread → Option Spread
spread_by (Ok report) spread = Some (spread_with (final_scores report) spread)
spread_by (Err fault) spread = spread

-- the least and the most scores of some games, if there is a game that is not refused
abbrev pub spread_of : Setup → List Game → Option Spread
spread_of problem [] = None
spread_of problem (game ∷ games) = spread_by (replay_result problem game) (spread_of problem games)
