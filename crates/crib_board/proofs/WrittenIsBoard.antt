-- The text that the code writes is the board.
use Rattle.std.proofs.Common.{◌≡◌, ℕ, ◌+◌, ◌-◌, ◌<◌, ◌≤◌, List, [], ◌∷◌, ◌++◌, flat_map, length, map, take, codes, decimal, get_or, refl, sym, ap, ◌∙◌}
use Rattle.std.proofs.Common.{◌*◌, append_assoc, arith, subst, vec_len, Option}
use Rattle.std.specs.List.{range_with_len}
use Rattle.std.proofs.lemmas.List.{append-nil, length-take-le, take_all, take_more, take-replicate}
use Rattle.std.proofs.lemmas.Grind.{flat_map-append}
use Rattle.std.specs.declared.vec.Vec.{Vec}
use Rattle.crib_text.specs.Private.Writing.{Appended}
use Rattle.std.proofs.lemmas.List.FromFn.{map-range_with_len_more}
use Rattle.crib_text.specs.Spelling.{space}
use Rattle.crib_cards.specs.declared.sides.Side.{Side}
use Rattle.crib_cards.specs.Words.{side_word}
use Rattle.crib_cards.specs.declared.sides.Scores.{Scores}
use Rattle.crib_show.specs.declared.show.outcomes.ShowRow.{ShowRow}
use Rattle.crib_show.specs.declared.show.outcomes.Outcome.{Outcome}
use Rattle.crib_show.specs.Words.{outcome_word, show_word}
use Rattle.crib_game.specs.declared.replaying.report.Row.{Row}
use Rattle.crib_problem.specs.Spelling.{move_word}
use Rattle.crib_board.specs.Board.{hole_byte, outcome_line, right_in, row_line, row_lines, score_columns, show_line, side_column, with_space}
use Rattle.crib_board.specs.Board.{track_line}
use Rattle.crib_board.specs.Board.{track_lines}
use Rattle.crib_text.proofs.RoomLemmas.{three_digits}

-- ---- columns

pub right_written : (old : List ℕ) (width number : ℕ) → width ≤ 3
    → (old ++ take (width - length (decimal number)) (codes "   ")) ++ decimal number ≡ old ++ right_in width number
unfolding right_in
right_written old width number narrow =
    append_assoc old (take (width - length (decimal number)) (codes "   ")) (decimal number)
    ∙ ap (λ (blank : List ℕ). old ++ (blank ++ decimal number)) (take-replicate (width - length (decimal number)) 3 space (omega arith))

pub scores_written : (old : List ℕ) (scores : Scores) → (old ++ with_space (right_in 3 scores.owner)) ++ with_space (right_in 3 scores.opponent) ≡ old
    ++ score_columns scores
unfolding score_columns
scores_written old scores = append_assoc old (with_space (right_in 3 scores.owner)) (with_space (right_in 3 scores.opponent))

pub side_written : (old : List ℕ) (side : Side)
    → (old ++ side_word side) ++ take (8 - length (side_word side)) (codes "        ") ≡ old ++ side_column side
side_written old side =
    append_assoc old (side_word side) (take (8 - length (side_word side)) (codes "        "))
    ∙ ap (λ (blank : List ℕ). old ++ (side_word side ++ blank)) (take-replicate (8 - length (side_word side)) 8 space (omega arith))

pub ruleset columns = (three_digits, right_written, scores_written, side_written)

-- ---- rows

regroup_row : (old number gap side what count points scores end : List ℕ)
    → ((((((((old ++ number) ++ gap) ++ side) ++ gap) ++ what) ++ count) ++ points) ++ scores) ++ end
    ≡ old ++ ((((((number ++ (gap ++ side)) ++ (gap ++ what)) ++ count) ++ points) ++ scores) ++ end)
regroup_row old number gap side what count points scores end = simp append_assoc

pub row_written : (old : List ℕ) (number : ℕ) (row : Row)
    → ((((((((old ++ right_in 2 number) ++ codes " ") ++ side_column row.act.side) ++ codes " ") ++ move_word row.act.what)
    ++ with_space (right_in 2 row.count)) ++ with_space (right_in 2 row.points)) ++ score_columns row.scores) ++ codes "\n" ≡ old ++ row_line number row
unfolding row_line
row_written old number row = regroup_row old _ (codes " ") _ _ _ _ _ _

pub hand_written : (old : List ℕ) (row : ShowRow)
    → (((((old ++ show_word row.crib) ++ codes " ") ++ side_column row.side) ++ with_space (right_in 2 row.points)) ++ score_columns row.scores) ++ codes "\n"
    ≡ old ++ show_line row
unfolding show_line
hand_written old row = simp append_assoc

-- no rows, and one row more
pub no_rows : (old : List ℕ) (number : ℕ) → old ++ row_lines number [] ≡ old
unfolding row_lines
no_rows old number = append-nil old

rows_and_row : (number : ℕ) (rows : List Row) (row : Row) → row_lines number (rows ++ row ∷ []) ≡ row_lines number rows ++ row_line (number + length rows) row
unfolding row_lines
rows_and_row number [] row = append-nil (row_line number row) ∙ ap (λ (n : ℕ). row_line n row) (omega arith)
rows_and_row number (first ∷ rows) row =
    ap (λ (rest : List ℕ). row_line number first ++ rest) (rows_and_row (number + 1) rows row)
    ∙ sym (append_assoc (row_line number first) (row_lines (number + 1) rows) (row_line (number + 1 + length rows) row))
    ∙ ap (λ (n : ℕ). row_lines number (first ∷ rows) ++ row_line n row) (omega arith)

pub rows_more : (rows : List Row) (at number : ℕ) (row : Row) → at < length rows → row ≡ get_or rows at row → number ≡ at + 1
    → row_lines 1 (take at rows) ++ row_line number row ≡ row_lines 1 (take (at + 1) rows)
rows_more rows at number row inside is counted =
    let so_far : List Row = take at rows in
    let here : number ≡ 1 + length so_far = omega (arith, counted, length-take-le at rows (omega arith)) in
    let taken : take (at + 1) rows ≡ so_far ++ row ∷ [] = take_more rows at row inside ∙ ap (λ (last : Row). so_far ++ last ∷ []) (sym is) in
    ap (λ (n : ℕ). row_lines 1 so_far ++ row_line n row) here ∙ sym (rows_and_row 1 so_far row) ∙ ap (row_lines 1) (sym taken)

pub hands_more : (hands : List ShowRow) (at : ℕ) (other : ShowRow) → at < length hands
    → flat_map show_line (take at hands) ++ show_line (get_or hands at other) ≡ flat_map show_line (take (at + 1) hands)
hands_more hands at other inside =
    ap (λ (last : List ℕ). flat_map show_line (take at hands) ++ last) (sym (append-nil (show_line (get_or hands at other))))
    ∙ sym (flat_map-append show_line (take at hands) (get_or hands at other ∷ [])) ∙ ap (flat_map show_line) (sym (take_more hands at other inside))

-- one line more
pub line_more : {A : Type 0} (start old new : Vec ℕ A) (text line all : List ℕ) (most longest bound : ℕ) → Appended start old text most
    → Appended old new line longest → text ++ line ≡ all → most + longest ≤ bound → Appended start new all bound
line_more start old new text line all most longest bound before after whole short = record {
  items = after.items ∙ ap (λ (front : List ℕ). front ++ line) before.items ∙ append_assoc start.items text line
      ∙ ap (λ (end : List ℕ). start.items ++ end) whole;
  room = omega (arith, before.room, after.room);
  len = omega (arith, before.len, after.len);
}

-- each line is written
pub all_written : {A X : Type 0} (start new : Vec ℕ A) (text_of : List X → List ℕ) (xs : List X) (at longest : ℕ)
    → Appended start new (text_of (take at xs)) (longest * at) → length xs ≤ at → at ≤ length xs → Appended start new (text_of xs) (longest * length xs)
all_written start new text_of xs at longest before all within =
    let same : at ≡ length xs = omega arith in record {
      items = before.items ∙ ap (λ taken. start.items ++ text_of taken) (take_all at xs all);
      room = before.room;
      len = subst (λ n. vec_len new ≤ vec_len start + longest * n) same before.len;
    }

-- ---- the outcome
pub outcome_written : (old : List ℕ) (over : Option Outcome) → (old ++ outcome_word over) ++ codes "\n" ≡ old ++ outcome_line over
outcome_written old over = append_assoc old (outcome_word over) (codes "\n")

pub ruleset rows = (row_written, hand_written, no_rows, outcome_written)

-- ---- tracks

pub line_written : (old : List ℕ) (side : Side) (front back : Option ℕ) (first holes : ℕ)
    → ((((old ++ side_column side) ++ with_space (right_in 3 first)) ++ codes " ") ++ map (hole_byte front back) (range_with_len first holes)) ++ codes "\n"
    ≡ old ++ track_line side front back first holes
unfolding track_line
line_written old side front back first holes = simp append_assoc

pub track_written : (old : List ℕ) (side : Side) (front back : Option ℕ)
    → (((old ++ track_line side front back 1 30) ++ track_line side front back 31 30) ++ track_line side front back 61 30) ++ track_line side front back 91 31
    ≡ old ++ track_lines side front back
unfolding track_lines
track_written old side front back = simp append_assoc

-- one hole more
pub holes_more : (old : List ℕ) (front back : Option ℕ) (first holes : ℕ)
    → (old ++ map (hole_byte front back) (range_with_len first holes)) ++ hole_byte front back (first + holes) ∷ []
    ≡ old ++ map (hole_byte front back) (range_with_len first (holes + 1))
holes_more old front back first holes =
    append_assoc old (map (hole_byte front back) (range_with_len first holes)) _
    ∙ ap (λ (all : List ℕ). old ++ all) (sym (map-range_with_len_more (hole_byte front back) first holes (first + holes) refl))

pub ruleset tracks = (line_written, track_written, holes_more)
