-- The code's walk over the rows of a report finds the reasons of the game's acts.
use Rattle.std.proofs.Common.{◌≡◌, ℕ, ◌+◌, ◌<◌, ◌≤◌, Bool, true, false, cond, eqb, ltb, List, [], ◌∷◌, ◌++◌, length, map, drop, reverse}
use Rattle.std.proofs.Common.{Ok, slice_index_or, refl, sym, ap, ◌∙◌, arith}
use Rattle.std.proofs.lemmas.Bool.Decides.{nat_tests}
use Rattle.std.proofs.lemmas.List.{append-nil, append_assoc, drop_all, drop_more, length-append, map-append, reverse-append}
use Rattle.std.proofs.lemmas.List.Sums.{sum_by_push}
use Rattle.std.proofs.lemmas.Simd.{map-map}
use Rattle.arrayvec.specs.ArrayVec.{ArrayVec}
use Rattle.crib_cards.specs.Cards.{rank_of, rank_value}
use Rattle.crib_cards.specs.Letters.{letter_of}
use Rattle.crib_cards.specs.Start.{Start}
use Rattle.crib_cards.specs.declared.letters.Letter.{Letter}
use Rattle.crib_cards.specs.declared.letters.Letter.TheVariants.{Seen, Go}
use Rattle.crib_cards.specs.declared.moves.Act.{Act}
use Rattle.crib_cards.specs.declared.moves.Move.{Move}
use Rattle.crib_cards.specs.declared.moves.Move.TheVariants as move
use Rattle.crib_play.specs.Record.{Record, cards_in, closes, count_of, is_begun, pile_of}
use Rattle.crib_play.specs.Points.{turn_points}
use Rattle.crib_play.specs.Filled.{filled_record, points_added}
use Rattle.crib_play.specs.Legal.{letters_of}
use Rattle.crib_play.specs.History.{moves_of}
use Rattle.crib_play.proofs.FilledRecords.{letters_filled}
use Rattle.crib_problem.specs.Setup.{Setup, start_of}
use Rattle.crib_game.specs.declared.section.game.Game.{Game}
use Rattle.crib_game.specs.declared.replaying.report.Report.{Report}
use Rattle.crib_game.specs.declared.replaying.report.Row.{Row}
use Rattle.crib_game.specs.Replay.{act_row, act_rows, acts_back, count_with, replay_result, report_of}
use Rattle.crib_game_sheet.specs.declared.game.reason.PlayReason.{PlayReason}
use Rattle.crib_game_sheet.specs.declared.game.reason.PlayReason.TheVariants as reason
use Rattle.crib_game_sheet.specs.declared.game.reasons.PlaySoFar.{PlaySoFar}
use Rattle.crib_game_sheet.specs.GamePlay.{act_reasons, card_reasons_at, game_reasons, reason_if, reasons_added, reasons_points, turn_reasons}
use Rattle.crib_game_sheet.specs.Private.PlayWalk.{cards_with, move_pile, move_reasons, row_pile, row_reasons}
use Rattle.crib_game_sheet.proofs.ReasonPoints.{points_of_turn}
use Rattle.crib_game_sheet.proofs.ReasonsAdded.{pile_after_card, pile_after_go, points_of_game, turn_adds}

-- ---- one act
-- the play is the one after a filled record
pub record Is (play : PlaySoFar) (past : Record) : Type 0 where
  pub pile : play.pile.items ≡ pile_of past
  pub cards : play.cards ≡ length (cards_in past)

-- what the code finds for a move, with the count with it and the points of its row
record Finds (play : PlaySoFar) (start : Start) (what : Move) (seen : List Letter) (count points : ℕ) : Type 0 where
  reasons : move_reasons play what count ++ reason_if (ltb (reasons_points (move_reasons play what count)) points) reason.Go
      ≡ reasons_added start (letter_of what) seen
  pile : cond (ltb (reasons_points (move_reasons play what count)) points) [] (move_pile play what count)
      ≡ pile_of (filled_record start (letter_of what ∷ seen))
  cards : cards_with play.cards what ≡ length (cards_in (filled_record start (letter_of what ∷ seen)))

more_points : (closed : Bool) (own points : ℕ) → points ≡ own + cond closed 1 0 → ltb own points ≡ closed
more_points closed own points is = grind (arith, nat_tests)

-- a go brings one close at most: by itself, or by the silent gos after it
one_close : (own silent : Bool) (points : ℕ) → (own ≡ true → silent ≡ false) → points ≡ cond own 1 0 + cond silent 1 0 →
    (reason_if (ltb 0 points) reason.Go ≡ reason_if own reason.Go ++ reason_if silent reason.Go)
    × ((pile : List ℕ) → cond (ltb 0 points) [] pile ≡ cond silent [] (cond own [] pile))
one_close own silent points apart is = grind (arith, nat_tests, apart, is)

never_both : (closed : Bool) (past : Record) → (closed ≡ true → is_begun (pile_of (Go ∷ past)) ≡ true) → closes Go past ≡ true → closed ≡ false
never_both closed past begun e = grind (arith, pile_after_go past, begun, e)

finds : (play : PlaySoFar) (start : Start) (what : Move) (seen : List Letter) (count points : ℕ) → Is play (filled_record start seen) →
    count ≡ count_with (count_of (pile_of (filled_record start seen))) what → points ≡ points_added start (letter_of what) seen →
    Finds play start what seen count points
finds play start (move.Card card) seen count points is count_is points_is =
    let rank = rank_of card in
    let past = filled_record start seen in
    let adds = turn_adds start (Seen rank) seen in
    let pile : play.pile.items ++ rank ∷ [] ≡ pile_of past ++ rank ∷ [] = ap (λ (cards : List ℕ). cards ++ rank ∷ []) is.pile in
    let counted : count ≡ count_of (pile_of past ++ rank ∷ []) = count_is ∙ sym (sum_by_push rank_value (pile_of past) rank) in
    let own : move_reasons play (move.Card card) count ≡ turn_reasons (Seen rank) past = λ i. card_reasons_at (is.cards i) (counted i) (pile i) in
    let total : reasons_points (move_reasons play (move.Card card) count) ≡ turn_points (Seen rank) past
    = ap reasons_points own ∙ points_of_turn (Seen rank) past in
    let closing : ltb (reasons_points (move_reasons play (move.Card card) count)) points ≡ adds.0
    = ap (λ n. ltb n points) total ∙ more_points adds.0 (turn_points (Seen rank) past) points (points_is ∙ adds.1.points) in
    record {
      reasons = (λ i. own i ++ reason_if (closing i) reason.Go) ∙ sym adds.1.reasons;
      pile = (λ i. cond (closing i) [] (cond (eqb (counted i) 31) [] (pile i))) ∙ rw (adds.1.pile, pile_after_card rank past) refl;
      cards = omega (arith, is.cards, ap length adds.1.cards, length-append (cards_in past) (rank ∷ []));
    }
finds play start move.Go seen count points is count_is points_is =
    let past = filled_record start seen in
    let adds = turn_adds start Go seen in
    let one = one_close (closes Go past) adds.0 points (never_both adds.0 past adds.1.begun) (points_is ∙ adds.1.points) in
    record {
      reasons = one.0 ∙ sym adds.1.reasons;
      pile = rw (one.1 play.pile.items, is.pile, adds.1.pile, pile_after_go past) refl;
      cards = is.cards ∙ ap length (sym adds.1.cards);
    }

-- ---- the row of an act
-- the play after some acts: its pile and its cards are those of their filled record
abbrev pub IsPlayAfter : PlaySoFar → Start → List Act → Type 0
IsPlayAfter play start before = Is play (filled_record start (letters_of (moves_of before)))

row_finds : (play : PlaySoFar) (start : Start) (act : Act) (before : List Act) → IsPlayAfter play start before →
    Finds play start act.what (letters_of (moves_of before)) (act_row start act before).count (act_row start act before).points
row_finds play start act before is =
    finds play start act.what (letters_of (moves_of before)) (act_row start act before).count (act_row start act before).points is
    (ap (λ (record_of : Record). count_with (count_of (pile_of record_of)) act.what) (letters_filled start (moves_of before))) refl

-- ---- the rows in the order of play

-- what is said of each act after the acts before it, in the order of play
abbrev pub each_from : {X : Type 0} → (Act → List Act → X) → List Act → List Act → List X
each_from one before [] = []
each_from one before (act ∷ acts) = one act before ∷ each_from one (act ∷ before) acts

-- the same is said with the last act first, turned round
pub forward : {X : Type 0} (one : Act → List Act → X) (all : List Act → List X) →
    ((act : Act) (before : List Act) → all (act ∷ before) ≡ one act before ∷ all before) →
    (before acts : List Act) → reverse (all (reverse acts ++ before)) ≡ reverse (all before) ++ each_from one before acts
forward one all step before [] = sym (append-nil (reverse (all before)))
forward one all step before (act ∷ acts) =
    rw (reverse-append (act ∷ []) acts, append_assoc (reverse acts) (act ∷ []) before, forward one all step (act ∷ before) acts, step act before)
    (rw (reverse-append (one act before ∷ []) (all before), append_assoc (reverse (all before)) (one act before ∷ []) (each_from one (act ∷ before) acts)) refl)

abbrev pub rows_from : Start → List Act → List Act → List Row
rows_from start before acts = each_from (act_row start) before acts

pub rows_of_report : (problem : Setup) (game : Game) → (report_of problem game).rows.items ≡ rows_from (start_of problem) [] game.acts.items
rows_of_report problem game =
    ap (λ (all : List Act). reverse (act_rows (start_of problem) all)) (sym (append-nil (acts_back game)))
    ∙ forward (act_row (start_of problem)) (act_rows (start_of problem)) (λ act before. refl) [] game.acts.items

-- ---- the walk
abbrev pub lists_of : List (ArrayVec PlayReason) → List (List PlayReason)
lists_of found = map (λ (reasons : ArrayVec PlayReason). reasons.items) found

-- the walk is after some acts of a game, and others are left
pub record Walks (start : Start) (acts : List Act) (play : PlaySoFar) (found : List (ArrayVec PlayReason)) (left : List Row) : Type 0 where
  pub before : List Act
  pub rest : List Act
  pub acts_are : acts ≡ reverse rest ++ before
  pub left_is : left ≡ rows_from start before rest
  pub after : IsPlayAfter play start before
  pub found_is : lists_of found ≡ reverse (act_reasons start before)

-- a report that is returned is that of the game
pub reported : (problem : Setup) (game : Game) (report : Report) → replay_result problem game ≡ Ok report → report_of problem game ≡ report
reported problem game report e = grind (arith, e)

pub walk_starts : (problem : Setup) (game : Game) (report : Report) (play : PlaySoFar) (found : List (ArrayVec PlayReason)) →
    replay_result problem game ≡ Ok report → found ≡ [] → play.pile.items ≡ [] → play.cards ≡ 0 →
    Walks (start_of problem) (acts_back game) play found report.rows.items
walk_starts problem game report play found e none pile cards = record {
  before = [];
  rest = game.acts.items;
  acts_are = sym (append-nil (acts_back game));
  left_is = ap (λ (r : Report). r.rows.items) (sym (reported problem game report e)) ∙ rows_of_report problem game;
  after = record { pile = pile; cards = cards };
  found_is = ap lists_of none;
}

pub walk_next : (start : Start) (acts : List Act) (play new : PlaySoFar) (found more : List (ArrayVec PlayReason)) (reasons : ArrayVec PlayReason)
    (row : Row) (rows : List Row) (i : ℕ) → i < length rows → row ≡ slice_index_or rows i row → more ≡ found ++ reasons ∷ [] →
    Walks start acts play found (drop i rows) → reasons.items ≡ row_reasons play row → new.pile.items ≡ row_pile play row →
    new.cards ≡ cards_with play.cards row.act.what → Walks start acts new more (drop (i + 1) rows)
walk_next start acts play new found more reasons row rows i within at more_is walks reasons_are pile cards =
    step walks.rest walks.acts_are (ap (λ (r : Row). r ∷ drop (i + 1) rows) at ∙ sym (drop_more rows i row within) ∙ walks.left_is)
  where
    step : (rest : List Act) → acts ≡ reverse rest ++ walks.before → row ∷ drop (i + 1) rows ≡ rows_from start walks.before rest →
        Walks start acts new more (drop (i + 1) rows)
    step [] acts_are left_is = absurd cc
    step (act ∷ rest) acts_are left_is =
        let before = walks.before in
        let head : row ≡ act_row start act before = cc in
        let tail : drop (i + 1) rows ≡ rows_from start (act ∷ before) rest = cc in
        let finds = row_finds play start act before walks.after in
        record {
          before = act ∷ before;
          rest = rest;
          acts_are = acts_are ∙ rw (reverse-append (act ∷ []) rest, append_assoc (reverse rest) (act ∷ []) before) refl;
          left_is = tail;
          after = record {
            pile = pile ∙ ap (row_pile play) head ∙ finds.pile;
            cards = cards ∙ ap (λ (r : Row). cards_with play.cards r.act.what) head ∙ finds.cards;
          };
          found_is = ap lists_of more_is
              ∙ map-append (λ (some : ArrayVec PlayReason). some.items) found (reasons ∷ [])
              ∙ (λ i. walks.found_is i ++ (reasons_are ∙ ap (row_reasons play) head ∙ finds.reasons) i ∷ [])
              ∙ sym (reverse-append (reasons_added start (letter_of act.what) (letters_of (moves_of before)) ∷ []) (act_reasons start before));
        }

-- a row adds one card at most
pub pile_grows : (play : PlaySoFar) (row : Row) → length (row_pile play row) ≤ length play.pile.items + 1
pile_grows play row = grind (arith, length-append)

pub cards_grow : (cards : ℕ) (what : Move) → cards_with cards what ≤ cards + 1
cards_grow cards what = grind (arith)

-- after the last row the walk has found all reasons
pub walk_done : (problem : Setup) (game : Game) (play : PlaySoFar) (found : List (ArrayVec PlayReason)) (rows : List Row) (i : ℕ) → length rows ≤ i →
    Walks (start_of problem) (acts_back game) play found (drop i rows) → lists_of found ≡ game_reasons problem game
walk_done problem game play found rows i past walks = step walks.rest walks.acts_are (sym (drop_all i rows past) ∙ walks.left_is)
  where
    step : (rest : List Act) → acts_back game ≡ reverse rest ++ walks.before → [] ≡ rows_from (start_of problem) walks.before rest →
        lists_of found ≡ game_reasons problem game
    step [] acts_are left_is = walks.found_is ∙ ap (λ (all : List Act). reverse (act_reasons (start_of problem) all)) (sym acts_are)
    step (act ∷ rest) acts_are left_is = absurd cc

-- the points of all reasons are those of the rows
pub found_points : (problem : Setup) (game : Game) (report : Report) (found : List (ArrayVec PlayReason)) → replay_result problem game ≡ Ok report →
    lists_of found ≡ game_reasons problem game →
    map (λ (some : ArrayVec PlayReason). reasons_points some.items) found ≡ map (λ (row : Row). row.points) report.rows.items
found_points problem game report found e are =
    sym (map-map reasons_points (λ (some : ArrayVec PlayReason). some.items) found) ∙ ap (map reasons_points) are ∙ points_of_game problem game
    ∙ ap (λ (r : Report). map (λ (row : Row). row.points) r.rows.items) (reported problem game report e)
