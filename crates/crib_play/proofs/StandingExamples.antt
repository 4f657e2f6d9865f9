-- Worked examples of what lies on the table, and of the visible turns of records with real cards. The opponent deals.
use Rattle.std.proofs.Common.{arith, rules, ◌≡◌, ◌∙◌, refl, sym, ap, subst, true, false, [], ◌∷◌, List, ℕ}
use Rattle.std.specs.Prelude.{map, replicate, reverse}
use Rattle.std.proofs.lemmas.Bool.{both_ways}
use Rattle.crib_cards.specs.declared.sides.Side.TheVariants.{Owner, Opponent}
use Rattle.crib_cards.specs.declared.letters.Letter.{Letter}
use Rattle.crib_cards.specs.declared.letters.Letter.TheVariants.{Seen, Go}
use Rattle.crib_cards.specs.declared.moves.Act.{Act}
use Rattle.crib_cards.specs.declared.moves.Move.{Move}
use Rattle.crib_cards.specs.declared.moves.Move.TheVariants as move
use Rattle.crib_cards.specs.Start.{Start, Hands}
use Rattle.crib_play.specs.declared.turns.Turn.TheVariants as turns
use Rattle.crib_play.specs.declared.seats.Seat.{Seat}
use Rattle.crib_play.specs.History.{Agrees, Event, Own, Theirs, act_by, acts_of, event_by, event_letter, event_of, filled_moves, gos_since, history_letters}
use Rattle.crib_play.specs.History.{history_of, moves_of, visible_moves, with_silent_moves}
use Rattle.crib_play.specs.Legal.{IsDealt, IsLegal, cards_left, cards_of, fits, letters_of}
use Rattle.crib_play.specs.Sound.{IsFair, IsSound}
use Rattle.crib_play.specs.Standing.{AreTaken, IsStart, MayFollow, Standing, StandsFor, seat_after, seat_of, standing_after}

abbrev level_start : Start
level_start = record { dealer = Opponent; scores = record { owner = 61; opponent = 70 }; target = 121 }

-- ---- what lies on the table after K T T and a go at 30: the tens are a pair for the owner
abbrev to_30 : List Letter
to_30 = reverse (Seen 13 ∷ Seen 10 ∷ Seen 10 ∷ Go ∷ [])

abbrev seat : ℕ → Seat
seat left = record { left = left; may_be_asked = true }

abbrev unheard : ℕ → Seat
unheard left = record { left = left; may_be_asked = false }

abbrev table_at_30 : Standing
table_at_30 = record {
  asked = turns.Owner;
  pile = 13 ∷ 10 ∷ 10 ∷ [];
  last = Owner;
  scores = record { owner = 63; opponent = 70 };
  target = 121;
  owner = seat 2;
  opponent = unheard 3;
}

pub on_the_table : standing_after level_start to_30 ≡ table_at_30
on_the_table = refl

-- A 7 7: the second seven makes fifteen and a pair, which takes the owner to the target
pub nobody_is_asked : (standing_after (record level_start { target = 65 }) (reverse (Seen 1 ∷ Seen 7 ∷ Seen 7 ∷ []))).asked ≡ turns.Over
nobody_is_asked = refl

pub seats_at_30 : map (λ side. seat_after level_start side to_30) (Owner ∷ Opponent ∷ []) ∷ map (seat_of table_at_30) (Owner ∷ Opponent ∷ []) ∷ []
    ≡ (seat 2 ∷ unheard 3 ∷ []) ∷ (seat 2 ∷ unheard 3 ∷ []) ∷ []
seats_at_30 = refl

-- a lead follows nothing, and nothing follows the end of a deal
pub lead_follows : MayFollow level_start (Seen 13) []
lead_follows = record { not_done = refl; may_show = omega arith }

pub follow_not : ¬ MayFollow level_start Go [] × ¬ MayFollow level_start (Seen 13) (replicate 8 (Seen 13))
follow_not = (λ may. absurd (omega arith), λ may. cc)

pub three_kings_are_taken : AreTaken level_start (replicate 3 (Seen 13))
three_kings_are_taken = search rules

pub not_taken : ¬ AreTaken level_start (replicate 4 (Seen 13)) × ¬ AreTaken level_start (Seen 13 ∷ Go ∷ [])
not_taken = (λ are. absurd (omega arith), λ are. absurd (omega arith))

-- ---- starts: the owner below a target up to 121, and the opponent below 121
pub closest_start : IsStart (record { dealer = Owner; scores = record { owner = 120; opponent = 120 }; target = 121 })
closest_start = search rules

-- the owner at the target, a target past the game, and the opponent at 121
pub no_starts : ¬ IsStart (record { dealer = Owner; scores = record { owner = 61; opponent = 0 }; target = 61 })
    × ¬ IsStart (record { dealer = Owner; scores = record { owner = 61; opponent = 0 }; target = 122 })
    × ¬ IsStart (record { dealer = Owner; scores = record { owner = 61; opponent = 121 }; target = 121 })
no_starts = (λ is. absurd (omega arith), λ is. absurd (omega arith), λ is. absurd (omega arith))

-- ---- rounds that represent visible turns
pub stands_at_first : StandsFor (standing_after level_start []) level_start []
stands_at_first = search rules

-- no start, a go at first, and other scores
pub stands_for_none : (round : Standing) → ((seen : List Letter) → StandsFor round (record level_start { target = 122 }) seen → ⊥)
    × ¬ StandsFor round level_start (Go ∷ [])
    × ¬ StandsFor (record (standing_after level_start []) { scores = record { owner = 62; opponent = 70 } }) level_start []
stands_for_none round = (
  λ seen stands. absurd (omega arith),
  λ stands. absurd (omega arith),
  λ stands. absurd (omega (arith, ap (λ (round : Standing). round.scores.owner) stands.shows)),
)

-- ---- fair tables: eight cards at most, four for a side, scores up to 121, and a card for a side that is heard
abbrev first_table : Standing
first_table = record table_at_30 { pile = []; owner = seat 4; opponent = seat 4; scores = record { owner = 121; opponent = 121 } }

-- each side has its four cards, or one; and a side without a card is fair if it isn't heard
pub fair : IsFair first_table × IsFair (record first_table { owner = seat 1; opponent = seat 1 })
    × IsFair (record first_table { owner = unheard 0; opponent = unheard 0 })
fair = search rules

-- nine cards, a score past 121, five cards left, and a side that is heard without a card
pub unfair : ¬ IsFair (record first_table { pile = 13 ∷ [] }) × ¬ IsFair (record first_table { scores = record { owner = 122; opponent = 0 } })
    × ¬ IsFair (record first_table { scores = record { owner = 0; opponent = 122 } }) × ¬ IsFair (record first_table { owner = seat 5; opponent = seat 3 })
    × ¬ IsFair (record first_table { owner = seat 3; opponent = seat 5 }) × ¬ IsFair (record first_table { owner = seat 0 })
    × ¬ IsFair (record first_table { opponent = seat 0 })
unfair = (
  λ is. absurd (omega arith),
  λ is. absurd (omega arith),
  λ is. absurd (omega arith),
  λ is. absurd (omega arith),
  λ is. absurd (omega arith),
  λ is. absurd (omega (arith, is.owner_seat refl)),
  λ is. absurd (omega (arith, is.opponent_seat refl)),
)

-- on a sound table the side to move is heard, and the other side needn't be
pub sound_with_a_silent_opponent : IsSound (record first_table { asked = turns.Owner; opponent = unheard 0 })
sound_with_a_silent_opponent = search rules

-- a silent side asked, and an unfair table
pub unsound : ¬ IsSound (record first_table { asked = turns.Owner; owner = unheard 0 })
    × ¬ IsSound (record first_table { asked = turns.Opponent; opponent = unheard 0 }) × ¬ IsSound (record first_table { asked = turns.Over; pile = 13 ∷ [] })
unsound = (λ is. cc (is.owner_asked refl), λ is. cc (is.opponent_asked refl), λ is. absurd (omega arith))

-- ---- real cards: KC TD 8C, a go, AC, a go that nobody hears, AS
abbrev all_moves : List Move
all_moves = reverse (move.Card 48 ∷ move.Card 37 ∷ move.Card 28 ∷ move.Go ∷ move.Card 0 ∷ move.Go ∷ move.Card 3 ∷ [])

abbrev own : ℕ → Act
own card = record { side = Owner; what = move.Card card }

abbrev all_acts : List Act
all_acts = reverse (own 48 ∷ record { side = Opponent; what = move.Card 37 } ∷ own 28 ∷ record { side = Opponent; what = move.Go } ∷ own 0 ∷ own 3 ∷ [])

pub turns_that_are_seen : (acts_of Owner all_moves ≡ all_acts) × (visible_moves Owner all_moves ≡ moves_of all_acts)
turns_that_are_seen = (refl, refl)

pub moves_of_acts : moves_of (own 3 ∷ record { side = Opponent; what = move.Go } ∷ own 3 ∷ []) ≡ move.Card 3 ∷ move.Go ∷ move.Card 3 ∷ []
moves_of_acts = refl

pub second_turn_is_the_dealers : act_by Owner move.Go (move.Card 48 ∷ []) ∷ act_by Owner move.Go [] ∷ []
    ≡ record { side = Opponent; what = move.Go } ∷ record { side = Owner; what = move.Go } ∷ []
second_turn_is_the_dealers = refl

-- two silent gos close the pile after the owner's last card
pub filled_with_silent_gos : filled_moves level_start (moves_of all_acts) ≡ move.Go ∷ move.Go ∷ all_moves
filled_with_silent_gos = refl

pub one_silent_go_at_most : with_silent_moves 1 level_start all_moves ∷ with_silent_moves 0 level_start all_moves ∷ []
    ≡ (move.Go ∷ all_moves) ∷ all_moves ∷ []
one_silent_go_at_most = refl

pub gos_after_the_last_card : map gos_since ([] ∷ (Seen 1 ∷ Go ∷ []) ∷ (Go ∷ Seen 1 ∷ Go ∷ []) ∷ (Go ∷ Go ∷ Seen 1 ∷ []) ∷ []) ≡ 0 ∷ 0 ∷ 1 ∷ 2 ∷ []
gos_after_the_last_card = refl

pub history_as_the_owner_sees_it : history_of Owner all_moves ≡
    reverse (Own (move.Card 48) ∷ Theirs (Seen 10) ∷ Own (move.Card 28) ∷ Theirs Go ∷ Own (move.Card 0) ∷ Own (move.Card 3) ∷ [])
history_as_the_owner_sees_it = refl

pub events_of_sides : event_by Owner (move.Card 37) ∷ event_by Opponent (move.Card 37) ∷ event_by Opponent move.Go ∷ []
    ≡ Own (move.Card 37) ∷ Theirs (Seen 10) ∷ Theirs Go ∷ []
events_of_sides = refl

pub event_of_an_act : event_of (record { side = Opponent; what = move.Card 37 }) ≡ Theirs (Seen 10)
event_of_an_act = refl

pub letters_of_a_history : history_letters (Own (move.Card 37) ∷ Theirs Go ∷ Own move.Go ∷ Theirs (Seen 3) ∷ [])
    ∷ map event_letter (Own (move.Card 37) ∷ Theirs (Seen 3) ∷ Theirs Go ∷ []) ∷ []
    ≡ (Seen 10 ∷ Go ∷ Go ∷ Seen 3 ∷ []) ∷ (Seen 10 ∷ Seen 3 ∷ Go ∷ []) ∷ []
letters_of_a_history = refl

-- ---- holds
abbrev hands : Hands
hands = record { owner = 48 ∷ 28 ∷ 0 ∷ 3 ∷ []; opponent = 37 ∷ 38 ∷ 50 ∷ 49 ∷ [] }

pub dealt_hands : IsDealt hands
dealt_hands = record { owner_four = refl; opponent_four = refl; distinct = refl }

-- three cards for the owner or for the opponent, and a king in both hands
pub no_deals : ¬ IsDealt (record hands { owner = 48 ∷ 28 ∷ 0 ∷ [] }) × ¬ IsDealt (record hands { opponent = 37 ∷ 38 ∷ 50 ∷ [] })
    × ¬ IsDealt (record hands { opponent = 37 ∷ 38 ∷ 50 ∷ 48 ∷ [] })
no_deals = (λ is. absurd (omega arith), λ is. absurd (omega arith), λ is. cc)

pub played_in_order : cards_of all_moves ≡ 48 ∷ 37 ∷ 28 ∷ 0 ∷ 3 ∷ []
played_in_order = refl

pub letters_in_order : letters_of (move.Card 3 ∷ move.Go ∷ move.Card 50 ∷ move.Card 3 ∷ []) ≡ Seen 1 ∷ Go ∷ Seen 13 ∷ Seen 1 ∷ []
letters_in_order = refl

pub left_after_three_turns : map (λ side. cards_left hands side (move.Card 28 ∷ move.Card 37 ∷ move.Card 48 ∷ [])) (Owner ∷ Opponent ∷ [])
    ≡ (0 ∷ 3 ∷ []) ∷ (38 ∷ 50 ∷ 49 ∷ []) ∷ []
left_after_three_turns = refl

-- at 28 a three fits, and a four doesn't
pub fitting_at_28 : map (fits (move.Card 28 ∷ move.Card 37 ∷ move.Card 48 ∷ [])) (0 ∷ 11 ∷ 12 ∷ []) ≡ true ∷ true ∷ false ∷ []
fitting_at_28 = refl

-- a hold agrees with what the owner saw of some legal record, and the empty record shows nothing
pub nothing_shows_no_king : (agrees : Agrees level_start hands (Own (move.Card 48) ∷ [])) → agrees.0 ≡ [] → ⊥
nothing_shows_no_king agrees none = (let shown : [] ≡ Own (move.Card 48) ∷ [] = sym (ap (history_of Owner) none) ∙ agrees.2 in absurd cc)

pub agreeing_is_legal : (history : List Event) (agrees : Agrees level_start hands history) → agrees.0 ≡ move.Card 37 ∷ [] → ⊥
agreeing_is_legal history agrees led = absurd (both_ways false refl (subst (IsLegal level_start hands) led agrees.1).1.may_take.0)
