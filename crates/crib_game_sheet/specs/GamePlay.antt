-- What the acts of the play count points for, from the rules of the play.
use Rattle.std.specs.Prelude.{ℕ, zero, suc, ◌==◌, nat_le, Bool, true, false, not, ◌&&◌, ◌||◌, List, [], ◌∷◌, ◌++◌}
use Rattle.std.specs.Prelude.{length, reverse, sum_by}
use Rattle.crib_cards.specs.Letters.{letter_of}
use Rattle.crib_cards.specs.Start.{Start}
use Rattle.crib_cards.specs.Runs.{is_run}
use Rattle.crib_cards.specs.declared.letters.Letter.{Letter}
use Rattle.crib_cards.specs.declared.letters.Letter.TheVariants as letter
use Rattle.crib_cards.specs.declared.moves.Act.{Act}
use Rattle.crib_play.specs.Record.{Record, cards_in, count_of, pile_of, closes}
use Rattle.crib_play.specs.Points.{most_last_cards, are_alike, alike_points}
use Rattle.crib_play.specs.Filled.{filled_record, is_silent_next}
use Rattle.crib_play.specs.Legal.{letters_of}
use Rattle.crib_play.specs.History.{moves_of}
use Rattle.crib_problem.specs.Setup.{Setup, start_of}
use Rattle.crib_game.specs.declared.section.game.Game.{Game}
use Rattle.crib_game.specs.Replay.{acts_back}
use Rattle.crib_game_sheet.specs.declared.game.reason.PlayReason.{PlayReason}
use Rattle.crib_game_sheet.specs.declared.game.reason.PlayReason.TheVariants.{Fifteen, ThirtyOne, Alike, Run}
use Rattle.crib_game_sheet.specs.declared.game.reason.PlayReason.TheVariants.{Go, LastCard}

-- the points of a reason
abbrev pub reason_points : PlayReason → ℕ
reason_points Fifteen = 2
reason_points ThirtyOne = 2
reason_points (Alike cards) = alike_points cards
reason_points (Run cards) = cards
reason_points Go = 1
reason_points LastCard = 1

-- the points of some reasons
abbrev pub reasons_points : List PlayReason → ℕ
reasons_points reasons = sum_by reason_points reasons

-- a reason if a test holds, and none otherwise
abbrev pub reason_if : Bool → PlayReason → List PlayReason
reason_if true reason = reason ∷ []
reason_if false reason = []

-- a count of 15 or of 31
abbrev pub count_reasons : ℕ → List PlayReason
count_reasons count = reason_if (count == 15) Fifteen ++ reason_if (count == 31) ThirtyOne

-- two or more last cards alike
abbrev pub alike_reasons : ℕ → List PlayReason
alike_reasons cards = reason_if (nat_le 2 cards) (Alike cards)

-- three or more last cards that are a run
abbrev pub run_reasons : ℕ → List PlayReason
run_reasons cards = reason_if (nat_le 3 cards) (Run cards)

-- the eighth card of the record, if the count with it is not 31. The arguments are the number of cards before it and
-- the count
abbrev pub last_card_reasons : ℕ → ℕ → List PlayReason
last_card_reasons before count = reason_if ((before == 7) && not (count == 31)) LastCard

-- why the last card of a pile with this count scores points
abbrev pub pile_reasons_at : ℕ → List ℕ → List PlayReason
pile_reasons_at count pile =
    count_reasons count ++ alike_reasons (most_last_cards are_alike (length pile) pile)
    ++ run_reasons (most_last_cards is_run (length pile) pile)

-- why a card counts points: what it scores as the last card of its pile, and that it is the eighth. The arguments are
-- the number of cards before it, the count with it, and the pile with it
abbrev pub card_reasons_at : ℕ → ℕ → List ℕ → List PlayReason
card_reasons_at before count pile = pile_reasons_at count pile ++ last_card_reasons before count

-- why a card counts points, by the number of cards before it and the pile with it
abbrev pub card_reasons : ℕ → List ℕ → List PlayReason
card_reasons before pile = card_reasons_at before (count_of pile) pile

-- why a turn after a record counts points: for a go, that it is a close
abbrev pub turn_reasons : Letter → Record → List PlayReason
turn_reasons (letter.Seen rank) past = card_reasons (length (cards_in past)) (pile_of past ++ rank ∷ [])
turn_reasons letter.Go past = reason_if (closes letter.Go past) Go

-- whether one of the silent gos after a record, up to a given number of them, closes the pile
abbrev pub silent_gos_close : ℕ → Start → Record → Bool
silent_gos_close zero start past = false
silent_gos_close (suc more) start past =
    is_silent_next start past && (closes letter.Go past || silent_gos_close more start (letter.Go ∷ past))

-- why one more visible turn counts points: its own reasons, and then the go, if a silent go after it closes the pile
abbrev pub reasons_added : Start → Letter → List Letter → List PlayReason
reasons_added start turn seen =
    turn_reasons turn (filled_record start seen)
    ++ reason_if (silent_gos_close 3 start (turn ∷ filled_record start seen)) Go

-- why each of some acts counts points. Both lists have the last one first
abbrev pub act_reasons : Start → List Act → List (List PlayReason)
act_reasons start [] = []
act_reasons start (act ∷ before) =
    reasons_added start (letter_of act.what) (letters_of (moves_of before)) ∷ act_reasons start before

-- why each act of a game counts points, in the order of play
abbrev pub game_reasons : Setup → Game → List (List PlayReason)
game_reasons problem game = reverse (act_reasons (start_of problem) (acts_back game))
