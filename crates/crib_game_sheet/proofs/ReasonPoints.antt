-- The points of the reasons of a turn add up to the points that the turn counts.
use Rattle.std.proofs.Common.{◌≡◌, ◌⊎◌, ℕ, zero, suc, ◌+◌, ◌-◌, ◌≤◌, Bool, true, false, cond, not, eqb, leb, ◌&&◌, List, [], ◌∷◌, ◌++◌, length}
use Rattle.std.proofs.Common.{refl, inl, arith}
use Rattle.std.proofs.lemmas.Bool.Decides.{nat_tests}
use Rattle.std.proofs.lemmas.List.{length-drop}
use Rattle.std.proofs.lemmas.List.Sums.{sum_by-append}
use Rattle.crib_cards.specs.Runs.{is_run}
use Rattle.crib_cards.specs.declared.letters.Letter.{Letter}
use Rattle.crib_cards.specs.declared.letters.Letter.TheVariants as letter
use Rattle.crib_play.specs.Record.{Record, cards_in, count_of, pile_of, closes}
use Rattle.crib_play.specs.Points.{count_points, alike_points, card_points, last_card_points, last_cards, most_last_cards, play_points}
use Rattle.crib_play.specs.Points.{turn_points}
use Rattle.crib_game_sheet.specs.declared.game.reason.PlayReason.{PlayReason}
use Rattle.crib_game_sheet.specs.declared.game.reason.PlayReason.TheVariants.{Alike, Run, Go, LastCard}
use Rattle.crib_game_sheet.specs.GamePlay.{alike_reasons, card_reasons, count_reasons, last_card_reasons, pile_reasons_at, reason_if, reason_points}
use Rattle.crib_game_sheet.specs.GamePlay.{reasons_points, run_reasons, turn_reasons}

pub points_if : (holds : Bool) (reason : PlayReason) → reasons_points (reason_if holds reason) ≡ cond holds (reason_points reason) 0
points_if true reason = omega arith
points_if false reason = refl

pub points_append : (some more : List PlayReason) → reasons_points (some ++ more) ≡ reasons_points some + reasons_points more
points_append some more = sum_by-append reason_points some more

-- ---- the parts of a card's points
points_of_count : (count : ℕ) → reasons_points (count_reasons count) ≡ count_points count
points_of_count count =
    grind (arith, nat_tests, points_append, points_if)

points_of_alike : (cards : ℕ) → reasons_points (alike_reasons cards) ≡ alike_points cards
points_of_alike cards = grind (arith, nat_tests, points_if (leb 2 cards) (Alike cards))

points_of_run : (cards : ℕ) → (cards ≡ 0) ⊎ (3 ≤ cards) → reasons_points (run_reasons cards) ≡ cards
points_of_run cards either = grind (arith, nat_tests, points_if (leb 3 cards) (Run cards), either)

pub three_cards : (cards : List ℕ) → is_run cards ≡ true → 3 ≤ length cards
three_cards cards is = grind (arith, nat_tests)

-- a run at the end of a pile has three cards or more
run_length : (n : ℕ) (pile : List ℕ) → (most_last_cards is_run n pile ≡ 0) ⊎ (3 ≤ most_last_cards is_run n pile)
run_length zero pile = inl refl
run_length (suc n) pile =
    grind (arith, run_length n pile, three_cards (last_cards (suc n) pile), length-drop (length pile - suc n) pile)

points_of_last_card : (before count : ℕ) → reasons_points (last_card_reasons before count) ≡ last_card_points before count
points_of_last_card before count = points_if (eqb before 7 && not (eqb count 31)) LastCard

points_of_pile : (pile : List ℕ) → reasons_points (pile_reasons_at (count_of pile) pile) ≡ play_points pile
points_of_pile pile =
    let long = run_length (length pile) pile in
    omega (arith, points_append, points_of_count, points_of_alike, points_of_run (most_last_cards is_run (length pile) pile) long)

points_of_card : (before : ℕ) (pile : List ℕ) → reasons_points (card_reasons before pile) ≡ card_points before pile
points_of_card before pile =
    omega (arith, points_append, points_of_pile pile, points_of_last_card before (count_of pile))

-- ---- the points of a turn, and of a record
pub points_of_turn : (turn : Letter) (past : Record) → reasons_points (turn_reasons turn past) ≡ turn_points turn past
points_of_turn (letter.Seen rank) past = points_of_card (length (cards_in past)) (pile_of past ++ rank ∷ [])
points_of_turn letter.Go past = points_if (closes letter.Go past) Go
