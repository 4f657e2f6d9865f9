-- How the code judges acts: by the round and the cards that each side has left.
use Rattle.std.specs.Prelude.{ℕ, ◌+◌, ◌≤◌, Bool, true, false, List, Option}
use Rattle.crib_cards.specs.Cards.{card_value}
use Rattle.crib_cards.specs.Sets.{set_of, set_without}
use Rattle.crib_cards.specs.Start.{Hands}
use Rattle.crib_cards.specs.declared.sides.Dealt.{Dealt}
use Rattle.crib_cards.specs.declared.sides.Side.{Side}
use Rattle.crib_cards.specs.declared.sides.Side.TheVariants.{Owner, Opponent}
use Rattle.crib_cards.specs.declared.moves.Move.{Move}
use Rattle.crib_cards.specs.declared.moves.Move.TheVariants as move
use Rattle.crib_cards.specs.declared.moves.Act.{Act}
use Rattle.crib_play.specs.declared.turns.Turn.{Turn}
use Rattle.crib_play.specs.declared.turns.Turn.TheVariants as turns
use Rattle.crib_play.specs.Record.{count_of}
use Rattle.crib_play.specs.Legal.{cards_left}
use Rattle.crib_play.specs.Score.{asks}
use Rattle.crib_play.specs.Standing.{Standing}
use Rattle.crib_show.specs.declared.deals.Full.{Full}
use Rattle.crib_problem.specs.Setup.{Setup}
use Rattle.crib_game.specs.declared.fault.GameFault.{GameFault}
use Rattle.crib_game.specs.declared.replaying.remark.Remark.{Remark}
use Rattle.crib_game.specs.declared.replaying.judging.HeldCards.{HeldCards}
use Rattle.crib_game.specs.Replay.{first_fault, full_with, move_fault_at}

-- whether the deal is done
abbrev pub is_over : Turn → Bool
is_over turns.Owner = false
is_over turns.Opponent = false
is_over turns.Over = true

-- the cards that a side has left
abbrev pub held_cards_of : HeldCards → Side → List ℕ
held_cards_of held Owner = held.owner
held_cards_of held Opponent = held.opponent

-- the cards that each side has left after a move. A card that is played is removed from both
abbrev pub held_cards_after : HeldCards → Move → HeldCards
held_cards_after held (move.Card card) =
    record { owner = set_without held.owner card; opponent = set_without held.opponent card }
held_cards_after held move.Go = held

-- the cards that each side has left after some moves
abbrev pub left_by : Hands → List Move → HeldCards
left_by hands moves =
    record { owner = set_of (cards_left hands Owner moves); opponent = set_of (cards_left hands Opponent moves) }

-- the refusal of an act in a round, by the cards that its side has left and the remark on the act
abbrev pub fault_at : Remark → Standing → List ℕ → Act → ℕ → Option GameFault
fault_at remark table cards act number =
    first_fault remark (is_over table.asked) (asks table.asked act.side)
    (move_fault_at (count_of table.pile) cards act.what number) number

-- the round allows a move: the count with the card is at most 31, or the go is said at a count of 22 or more
abbrev pub MayShowAt : Move → Standing → Type 0
MayShowAt (move.Card card) table = count_of table.pile + card_value card ≤ 31
MayShowAt move.Go table = 22 ≤ count_of table.pile

-- everything that the show depends on, with the scores of a round
abbrev pub full_at : Setup → Dealt → Standing → Full
full_at problem dealt table = full_with problem dealt table.scores
