-- Reasons and combinations add up to the points beside them, and no act lists a reason twice.
use Rattle.std.proofs.Common.{◌≡◌, ℕ, suc, Bool, true, false, cond, eqb, List, [], ◌∷◌, ◌++◌}
use Rattle.std.proofs.Common.{length, map, sum_by}
use Rattle.std.proofs.Common.{refl, ap, subst, ◌∙◌, arith}
use Rattle.std.specs.List.{AllByRecursion}
use Rattle.std.proofs.lemmas.Bool.{cond_both, true≢false}
use Rattle.std.proofs.lemmas.List.{length-append}
use Rattle.crib_cards.specs.Letters.{letter_of}
use Rattle.crib_cards.specs.Runs.{is_run}
use Rattle.crib_cards.specs.Sets.{AreDifferent}
use Rattle.crib_cards.specs.Start.{Start, hand_of}
use Rattle.crib_cards.specs.declared.letters.Letter.{Letter}
use Rattle.crib_cards.specs.declared.letters.Letter.TheVariants as letter
use Rattle.crib_cards.specs.declared.moves.Act.{Act}
use Rattle.crib_cards.specs.declared.sides.Dealt.{Dealt}
use Rattle.crib_cards.specs.declared.sides.Scores.{Scores}
use Rattle.crib_cards.specs.declared.sides.Side.{Side}
use Rattle.crib_cards.specs.declared.sides.Side.TheVariants.{Owner, Opponent}
use Rattle.crib_cards.specs.Sides.{are_decided, other_side, scores_with}
use Rattle.crib_play.specs.Record.{Record, cards_in, closes, count_of, pile_of}
use Rattle.crib_play.specs.Points.{are_alike, most_last_cards}
use Rattle.crib_play.specs.Filled.{filled_record, with_silent_gos}
use Rattle.crib_play.specs.History.{moves_of}
use Rattle.crib_play.specs.Legal.{letters_of}
use Rattle.crib_show.specs.Outcome.{row_of, rows_from, show_of, show_order}
use Rattle.crib_show.specs.Show.{crib_points, hand_points}
use Rattle.crib_show.specs.declared.show.outcomes.ShowRow.{ShowRow}
use Rattle.crib_problem.specs.Setup.{Setup, IsSetup, hands_of, start_of, target_of}
use Rattle.crib_game.specs.declared.section.game.Game.{Game}
use Rattle.crib_game.specs.declared.replaying.report.Row.{Row}
use Rattle.crib_game.specs.declared.replaying.report.Report.{Report}
use Rattle.crib_game.specs.Replay.{acts_back, is_done_for, record_of, full_with, play_scores}
use Rattle.crib_game.specs.Spelling.{AreSixCards}
use Rattle.crib_game_sheet.specs.declared.game.reason.PlayReason.{PlayReason}
use Rattle.crib_game_sheet.specs.declared.game.reason.PlayReason.TheVariants.{Fifteen, ThirtyOne, Alike, Run, Go, LastCard}
use Rattle.crib_game_sheet.specs.GameLaws.{HandsAddUpLaw, ReasonsAddUpLaw}
use Rattle.crib_game_sheet.specs.GamePlay.{act_reasons, card_reasons_at, reason_if, reasons_added, silent_gos_close}
use Rattle.crib_game_sheet.specs.GameShow.{points_of}
use Rattle.crib_game_sheet.specs.GameText.{counted_combinations}
use Rattle.crib_cards.proofs.AllEntries.{all_reverse}
use Rattle.crib_game_sheet.proofs.CombinationPoints.{crib_sum, hand_sum}
use Rattle.crib_game_sheet.proofs.DifferentCombinations.{Stands, joined}
use Rattle.crib_game_sheet.proofs.PlayWalks.{reported}
use Rattle.crib_game_sheet.proofs.ReasonsAdded.{gos_after, not_closed, pile_after_go, points_of_game}

-- ---- no reason twice

-- the index of a reason among those of an act
abbrev reason_index : PlayReason → ℕ
reason_index Fifteen = 0
reason_index ThirtyOne = 1
reason_index (Alike cards) = 2
reason_index (Run cards) = 3
reason_index LastCard = 4
reason_index Go = 5

-- one more reason, at its index, or none
with_next : (before : ℕ) (reasons : List PlayReason) (holds : Bool) (reason : PlayReason) → reason_index reason ≡ before → Stands reason_index before reasons
    → Stands reason_index (suc before) (reasons ++ reason_if holds reason)
with_next before reasons true reason at stand = joined reason_index before reasons (reason ∷ []) stand (at, tt) (tt, tt)
with_next before reasons false reason at stand = joined reason_index before reasons [] stand tt tt

card_stands : (before count : ℕ) (pile : List ℕ) → Stands reason_index 5 (card_reasons_at before count pile)
card_stands before count pile =
    let alike = most_last_cards are_alike (length pile) pile in
    let run = most_last_cards is_run (length pile) pile in
    with_next 4 _ _ LastCard refl
    (with_next 3 _ _ (Run run) refl
    (with_next 2 _ _ (Alike alike) refl (with_next 1 _ _ ThirtyOne refl (with_next 0 [] (eqb count 15) Fifteen refl (record { before = tt; differ = tt })))))

-- a go that closes the pile leaves no pile for another one to close
go_once : (own later : Bool) → (own ≡ true → later ≡ false) → AreDifferent (reason_if own Go ++ reason_if later Go)
go_once true true apart = absurd (true≢false (apart refl))
go_once false false apart = tt
go_once _ _ apart = (tt, tt)

added_differ : (start : Start) (turn : Letter) (seen : List Letter) → AreDifferent (reasons_added start turn seen)
added_differ start (letter.Seen rank) seen =
    let past = filled_record start seen in
    let pile = pile_of past ++ rank ∷ [] in
    (with_next 5 _ (silent_gos_close 3 start (letter.Seen rank ∷ past)) Go refl (card_stands (length (cards_in past)) (count_of pile) pile)).differ
added_differ start letter.Go seen =
    let past = filled_record start seen in
    let after : Record = letter.Go ∷ past in
    go_once (closes letter.Go past) (silent_gos_close 3 start after)
    (λ e.
    not_closed after (with_silent_gos 3 start after) (silent_gos_close 3 start after)
    (pile_after_go past ∙ ap (λ (b : Bool). cond b [] (pile_of past)) e) (gos_after 3 start after))

acts_differ : (start : Start) (acts : List Act) → AllByRecursion (λ reasons. AreDifferent reasons) (act_reasons start acts)
acts_differ start [] = tt
acts_differ start (act ∷ before) = (added_differ start (letter_of act.what) (letters_of (moves_of before)), acts_differ start before)

pub reasons_add_up : ReasonsAddUpLaw
reasons_add_up problem game report e = (
  points_of_game problem game ∙ ap (λ (r : Report). map (λ (row : Row). row.points) r.rows.items) (reported problem game report e),
  all_reverse (λ reasons. AreDifferent reasons) (act_reasons (start_of problem) (acts_back game)) (acts_differ (start_of problem) (acts_back game)),
)

-- ---- the show

-- what holds of the row of each hand holds of all rows that are counted
rows_all : (P : ShowRow → Type 0) (target : ℕ) (scores : Scores) (show : List (Bool × Side × ℕ))
    → AllByRecursion (λ (counted : Bool × Side × ℕ). (after : Scores) → P (row_of counted after)) show → AllByRecursion P (rows_from target scores show)
rows_all P target scores [] all = tt
rows_all P target scores (counted ∷ show) all =
    let after : Scores = scores_with scores counted.1 counted.2 in
    cond_both (are_decided target scores) [] (row_of counted after ∷ rows_from target after show) (AllByRecursion P) (λ e. tt)
    (λ e. (all.0 after, rows_all P target after show all.1))

-- the combinations of a row add up to its points
abbrev AddsUp : Setup → Dealt → ShowRow → Type 0
AddsUp problem dealt row = sum_by points_of (counted_combinations problem dealt row) ≡ row.points

hand_adds_up : (problem : Setup) (game : Game) → IsSetup problem → AreSixCards game.opp → (side : Side) (after : Scores)
    → AddsUp problem game.opp (row_of (false, side, hand_points (hand_of (hands_of problem game.opp) side) problem.starter) after)
hand_adds_up problem game setup six Owner after = hand_sum problem.hold problem.starter setup.held
hand_adds_up problem game setup six Opponent after = hand_sum game.opp.hold problem.starter six.held

crib_adds_up : (problem : Setup) (game : Game) → IsSetup problem → AreSixCards game.opp → (after : Scores)
    → AddsUp problem game.opp (row_of (true, problem.dealer, crib_points (problem.thrown ++ game.opp.throw) problem.starter) after)
crib_adds_up problem game setup six after =
    crib_sum (problem.thrown ++ game.opp.throw) problem.starter
    (omega (arith, length-append problem.thrown game.opp.throw, setup.two_thrown, six.thrown))

show_adds_up : (problem : Setup) (game : Game) → IsSetup problem → AreSixCards game.opp
    → AllByRecursion (AddsUp problem game.opp) (show_of (full_with problem game.opp (play_scores problem (record_of problem game))))
unfolding show_of
show_adds_up problem game setup six =
    rows_all (AddsUp problem game.opp) (target_of problem) (play_scores problem (record_of problem game))
    (show_order problem.dealer (hands_of problem game.opp) (problem.thrown ++ game.opp.throw) problem.starter) (
      hand_adds_up problem game setup six (other_side problem.dealer),
      (
        hand_adds_up problem game setup six problem.dealer,
        (crib_adds_up problem game setup six, tt),
      ),
    )

pub hands_add_up : HandsAddUpLaw
hands_add_up problem game report setup six e =
    subst (λ (r : Report). AllByRecursion (AddsUp problem game.opp) r.show.items) (reported problem game report e)
    (cond_both (is_done_for problem (record_of problem game)) _ _ (AllByRecursion (AddsUp problem game.opp))
    (λ e. show_adds_up problem game setup six) (λ e. tt))
