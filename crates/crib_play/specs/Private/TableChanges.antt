-- What a turn changes on the table, step by step, as the code does it. The contracts of `Round` don't mention these
-- steps. They state what a round represents (`StandsFor`) and the points that a turn adds (`points_added`), by the
-- rules alone.
use Rattle.std.specs.Prelude.{ℕ, ◌+◌, ◌-◌, ◌==◌, nat_lt, Bool, true, false, ◌||◌, ◌&&◌, [], ◌∷◌, ◌++◌, if◌then◌else◌}
use Rattle.crib_cards.specs.declared.sides.Side.{Side}
use Rattle.crib_cards.specs.declared.sides.Side.TheVariants.{Owner, Opponent}
use Rattle.crib_cards.specs.declared.sides.Scores.{Scores}
use Rattle.crib_cards.specs.Sides.{other_side, scores_with, are_decided}
use Rattle.crib_play.specs.declared.turns.Turn.{Turn}
use Rattle.crib_play.specs.declared.turns.Turn.TheVariants as turns
use Rattle.crib_play.specs.declared.seats.Seat.{Seat}
use Rattle.crib_play.specs.Record.{count_of}
use Rattle.crib_play.specs.Points.{card_points}
use Rattle.crib_play.specs.Score.{side_asked}
use Rattle.crib_play.specs.Standing.{Standing, seat_of}

-- whether the deal is done: the scores decide, or neither side has a card left
abbrev pub is_over : Standing → Bool
is_over table = are_decided table.target table.scores || ((table.owner.left == 0) && (table.opponent.left == 0))

-- the table with this seat of a side in place of its old one
abbrev pub with_seat : Standing → Side → Seat → Standing
with_seat table Owner seat = record table { owner = seat }
with_seat table Opponent seat = record table { opponent = seat }

-- a seat at the start of a count: the side is heard if it holds a card
abbrev pub seat_after_close : Seat → Seat
seat_after_close seat = record { left = seat.left; may_be_asked = nat_lt 0 seat.left }

-- a seat with one card fewer, of a side that has not said go: it is heard if a card is left
abbrev pub with_card_less : Seat → Seat
with_card_less seat = record { left = seat.left - 1; may_be_asked = nat_lt 0 (seat.left - 1) }

-- a seat after a go: the side is not heard again in this count
abbrev pub with_go_said : Seat → Seat
with_go_said seat = record { left = seat.left; may_be_asked = false }

-- the table after a close: an empty pile, and each side that holds a card is heard
abbrev pub table_after_close : Standing → Standing
table_after_close table =
    record table { pile = []; owner = seat_after_close table.owner; opponent = seat_after_close table.opponent }

-- the table with points added to the score of a side
abbrev pub with_points : Standing → Side → ℕ → Standing
with_points table side points = record table { scores = scores_with table.scores side points }

-- the table with another player to move
abbrev pub with_asked : Standing → Turn → Standing
with_asked table turn = record table { asked = turn }

-- the points of a card that is played now, without those of a close after it
abbrev pub points_of_laying : Standing → ℕ → ℕ
points_of_laying table rank = card_points (8 - (table.owner.left + table.opponent.left)) (table.pile ++ rank ∷ [])

-- the table with a card of a side on the pile: its points are scored, and the side has one card fewer
abbrev pub with_card_on_pile : Standing → Side → ℕ → Standing
with_card_on_pile table side rank =
    with_seat
    (record table {
      pile = table.pile ++ rank ∷ [];
      last = side;
      scores = scores_with table.scores side (points_of_laying table rank);
    })
    side (with_card_less (seat_of table side))

-- the table after a side plays a card, closed if the count is 31, and without the silent gos that follow
abbrev pub table_after_laying : Standing → Side → ℕ → Standing
table_after_laying table side rank =
    if count_of (table.pile ++ rank ∷ []) == 31 then table_after_close (with_card_on_pile table side rank)
    else with_card_on_pile table side rank

-- the player to move in a new count, after a turn of a side: nobody if the deal is done, otherwise the other side if it
-- is heard, and otherwise the same side
abbrev pub next_to_lead : Standing → Side → Turn
next_to_lead table side =
    if is_over table then turns.Over
    else if (seat_of table (other_side side)).may_be_asked then side_asked (other_side side)
    else side_asked side

-- the table after a turn of a side and the silent gos that follow it. If the deal is done, nobody is to move. Otherwise
-- the other side is to move if it is heard, and else the same side if it is. If neither is heard, the count closes, the
-- player of the last card gets 1, and a new count begins
abbrev pub with_next_asked : Standing → Side → Standing
with_next_asked table side =
    if is_over table then with_asked table turns.Over
    else if (seat_of table (other_side side)).may_be_asked then with_asked table (side_asked (other_side side))
    else if (seat_of table side).may_be_asked then with_asked table (side_asked side)
    else with_asked (table_after_close (with_points table table.last 1))
    (next_to_lead (table_after_close (with_points table table.last 1)) side)

-- 1 if these silent gos make a close, and otherwise 0
abbrev pub points_of_asking : Standing → Side → ℕ
points_of_asking table side =
    if is_over table then 0
    else if (seat_of table (other_side side)).may_be_asked then 0
    else if (seat_of table side).may_be_asked then 0
    else 1

-- the table after a side plays a card, with the silent gos that follow
abbrev pub table_after_play : Standing → Side → ℕ → Standing
table_after_play table side rank = with_next_asked (table_after_laying table side rank) side

-- the points of that card, and of the close that silent gos after it make
abbrev pub points_of_play : Standing → Side → ℕ → ℕ
points_of_play table side rank =
    points_of_laying table rank + points_of_asking (table_after_laying table side rank) side

-- the table after a side says go, with the silent gos that follow
abbrev pub table_after_go : Standing → Side → Standing
table_after_go table side = with_next_asked (with_seat table side (with_go_said (seat_of table side))) side

-- 1 if this go or the silent gos after it make a close, and otherwise 0
abbrev pub points_of_go : Standing → Side → ℕ
points_of_go table side = points_of_asking (with_seat table side (with_go_said (seat_of table side))) side

-- the table at the first lead
abbrev pub first_table : Side → Scores → ℕ → Standing
first_table dealer scores target = record {
  asked = side_asked (other_side dealer);
  pile = [];
  last = other_side dealer;
  scores = scores;
  target = target;
  owner = record { left = 4; may_be_asked = true };
  opponent = record { left = 4; may_be_asked = true };
}
