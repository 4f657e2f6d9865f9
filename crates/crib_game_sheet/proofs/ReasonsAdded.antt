-- The reasons that a visible turn adds: its own, and the go of a close that the silent gos after it bring.
use Rattle.std.proofs.Common.{◌≡◌, ℕ, zero, suc, ◌+◌, Bool, true, false, cond, ◌||◌, List, [], ◌∷◌, ◌++◌, map, reverse}
use Rattle.std.proofs.Common.{refl, sym, ap, ◌∙◌, inl, inr, arith}
use Rattle.std.proofs.lemmas.Bool.{cases_Bool}
use Rattle.std.proofs.lemmas.List.{append-nil, append_assoc, map-append, reverse-append}
use Rattle.crib_cards.specs.Letters.{letter_of}
use Rattle.crib_cards.specs.Start.{Start}
use Rattle.crib_cards.specs.declared.letters.Letter.{Letter}
use Rattle.crib_cards.specs.declared.letters.Letter.TheVariants.{Seen, Go}
use Rattle.crib_cards.specs.declared.moves.Act.{Act}
use Rattle.crib_play.specs.Record.{Record, cards_in, closes, is_begun, is_close, pile_of, sequence_of}
use Rattle.crib_play.specs.Points.{points_in, turn_points}
use Rattle.crib_play.specs.Filled.{filled_record, is_silent_next, points_added, with_silent_gos}
use Rattle.crib_play.specs.Legal.{letters_of}
use Rattle.crib_play.specs.History.{moves_of}
use Rattle.crib_problem.specs.Setup.{Setup, start_of}
use Rattle.crib_game.specs.declared.section.game.Game.{Game}
use Rattle.crib_game.specs.declared.replaying.report.Row.{Row}
use Rattle.crib_game.specs.Replay.{act_rows, acts_back, report_of}
use Rattle.crib_game_sheet.specs.declared.game.reason.PlayReason.TheVariants as reason
use Rattle.crib_game_sheet.specs.GameLaws.{ReasonsAddedLaw, reasons_in}
use Rattle.crib_game_sheet.specs.GamePlay.{act_reasons, game_reasons, reason_if, reasons_added, reasons_points, silent_gos_close, turn_reasons}
use Rattle.crib_game_sheet.proofs.ReasonPoints.{points_append, points_if, points_of_turn}

-- ---- gos after a record
-- what some gos after a record bring: one close or none
pub record GosAfter (past full : Record) (closed : Bool) : Type 0 where
  pub reasons : reasons_in full ≡ reasons_in past ++ reason_if closed reason.Go
  pub points : points_in full ≡ cond closed 1 0 + points_in past
  pub pile : pile_of full ≡ cond closed [] (pile_of past)
  pub cards : cards_in full ≡ cards_in past
  pub begun : closed ≡ true → is_begun (pile_of past) ≡ true

no_gos : (past : Record) → GosAfter past past false
no_gos past = grind (arith, append-nil (reasons_in past))

pub pile_after_go : (past : Record) → pile_of (Go ∷ past) ≡ cond (closes Go past) [] (pile_of past)
pile_after_go past = grind (arith)

pub pile_after_card : (rank : ℕ) (past : Record) → pile_of (Seen rank ∷ past) ≡ cond (closes (Seen rank) past) [] (pile_of past ++ rank ∷ [])
pile_after_card rank past = grind (arith)

-- a go that is a close comes after a card
close_begun : (recent : List Letter) → is_close Go recent ≡ true → is_begun (cards_in recent) ≡ true
close_begun recent e = grind (arith, e)

-- one more go before them
one_go : (past full : Record) (closed : Bool) → GosAfter (Go ∷ past) full closed → GosAfter past full (closes Go past || closed)
one_go past full closed gos =
    grind (arith, pile_after_go past, append-nil (reasons_in past), append-nil (reasons_in (Go ∷ past)), close_begun (sequence_of past))

-- gos over an empty pile are no close
pub not_closed : (past full : Record) (closed : Bool) → pile_of past ≡ [] → GosAfter past full closed → closed ≡ false
not_closed past full closed empty gos = grind (arith, gos.begun, empty)

pub gos_after : (n : ℕ) (start : Start) (past : Record) → GosAfter past (with_silent_gos n start past) (silent_gos_close n start past)
gos_after zero start past = no_gos past
gos_after (suc n) start past =
    elim (cases_Bool (is_silent_next start past)) [
      | inl silent ↦ rw silent (one_go past _ _ (gos_after n start (Go ∷ past)))
      | inr heard ↦ rw heard (no_gos past)
    ]

-- ---- one more visible turn
-- what a visible turn adds, with the silent gos after it
pub record TurnAdds (start : Start) (turn : Letter) (seen : List Letter) (closed : Bool) : Type 0 where
  pub reasons : reasons_added start turn seen ≡ turn_reasons turn (filled_record start seen) ++ reason_if closed reason.Go
  pub points : points_added start turn seen ≡ turn_points turn (filled_record start seen) + cond closed 1 0
  pub pile : pile_of (filled_record start (turn ∷ seen)) ≡ cond closed [] (pile_of (turn ∷ filled_record start seen))
  pub cards : cards_in (filled_record start (turn ∷ seen)) ≡ cards_in (turn ∷ filled_record start seen)
  pub begun : closed ≡ true → is_begun (pile_of (turn ∷ filled_record start seen)) ≡ true

pub turn_adds : (start : Start) (turn : Letter) (seen : List Letter) → (closed : Bool) × TurnAdds start turn seen closed
turn_adds start turn seen =
    let past = filled_record start seen in
    let gos = gos_after 3 start (turn ∷ past) in (
      silent_gos_close 3 start (turn ∷ past),
      record { reasons = refl; points = omega (arith, gos.points); pile = gos.pile; cards = gos.cards; begun = gos.begun },
    )

pub reasons_added_law : ReasonsAddedLaw
reasons_added_law start turn seen =
    let past = filled_record start seen in
    let closed = silent_gos_close 3 start (turn ∷ past) in
    (gos_after 3 start (turn ∷ past)).reasons ∙ append_assoc (reasons_in past) (turn_reasons turn past) (reason_if closed reason.Go)

-- the points of the reasons that a visible turn adds are those that it adds
pub points_of_added : (start : Start) (turn : Letter) (seen : List Letter) → reasons_points (reasons_added start turn seen) ≡ points_added start turn seen
points_of_added start turn seen =
    let adds = turn_adds start turn seen in
    omega (arith, ap reasons_points adds.1.reasons, points_append, points_of_turn turn (filled_record start seen), points_if, adds.1.points)

-- ---- a game, row by row
points_of_acts : (start : Start) (acts : List Act) → map reasons_points (act_reasons start acts) ≡ map (λ (row : Row). row.points) (act_rows start acts)
points_of_acts start [] = refl
points_of_acts start (act ∷ before) =
    λ i. points_of_added start (letter_of act.what) (letters_of (moves_of before)) i ∷ points_of_acts start before i

map_reverse : {X Y : Type 0} (f : X → Y) (xs : List X) → map f (reverse xs) ≡ reverse (map f xs)
map_reverse f [] = refl
map_reverse f (x ∷ xs) =
    rw (reverse-append (x ∷ []) xs, map-append f (reverse xs) (x ∷ []), map_reverse f xs, reverse-append (f x ∷ []) (map f xs)) refl

-- the points of the reasons of a game's acts are those of the rows of its report
pub points_of_game : (problem : Setup) (game : Game) →
    map reasons_points (game_reasons problem game) ≡ map (λ (row : Row). row.points) (report_of problem game).rows.items
points_of_game problem game =
    let start = start_of problem in
    let acts = acts_back game in
    map_reverse reasons_points (act_reasons start acts) ∙ ap reverse (points_of_acts start acts)
    ∙ sym (map_reverse (λ (row : Row). row.points) (act_rows start acts))
