-- The text of a sheet of small rows is short, and so is each of its lines.
use Rattle.std.proofs.Common.{◌≡◌, ℕ, suc, ◌+◌, ◌-◌, ◌*◌, ◌<◌, ◌≤◌, max, true, eqb, List, [], ◌∷◌, ◌++◌, length, map}
use Rattle.std.proofs.Common.{codes, decimal, flat_map, refl, arith, length-append, append_assoc}
use Rattle.std.specs.List.{list_all, sum_by, AllByRecursion}
use Rattle.std.proofs.lemmas.Bool.{and_parts, agree_below_at, ne_eqb, not-true}
use Rattle.std.proofs.lemmas.List.{length-replicate}
use Rattle.std.proofs.lemmas.List.Sums.{sum_by-cons}
use Rattle.std.proofs.lemmas.Fmt.{length-decimal-le}
use Rattle.crib_cards.specs.CardText.{card_text}
use Rattle.crib_plan_sheet.specs.PlanSheet.{Row, Lines, Paragraph, Sheet, Over, Plays, Looks, Named, NoLine, Line}
use Rattle.crib_plan_sheet.specs.PlanText.{label, label_width, label_column, indent, before_rest, row_text, lines_text, paragraph_text, sheet_text}
use Rattle.crib_plan_sheet.specs.PlanSheetSize.{line_count, lines_count, level_count, levels_below, longest_line, sheet_lines}
use Rattle.crib_plan_sheet.specs.PlanTextLaws.{IsRow, AreLines, IsParagraph, IsSheet}
use Rattle.crib_plan_sheet.proofs.PlanLabels.{other_than, all_blanks, label_length, no_end}
use Rattle.crib_plan_sheet.proofs.PlanTexts.{number_bytes, paragraph_is}
use Rattle.crib_plan_sheet.proofs.SheetSizes.{IsSmall, IsSmallSheet, most_cards, most_cards_below}

-- after so many bytes of its first line, no line of a text is longer than 75 bytes, and all are at most so many
record Fits (used most : ℕ) (bytes : List ℕ) : Type 0 where
  narrow : longest_line used bytes ≤ 75
  short : used + length bytes ≤ most

weaker : (used most more : ℕ) (bytes : List ℕ) → most ≤ more → Fits used most bytes → Fits used more bytes
weaker used most more bytes less fits = record { narrow = fits.narrow; short = omega (arith, less, fits.short) }

-- a part of a line
front_fits : (front rest : List ℕ) (used most : ℕ) → list_all (other_than 10) front ≡ true → Fits (used + length front) most rest →
    Fits used most (front ++ rest)
front_fits [] rest used most none fits = let e : used + 0 ≡ used = omega arith in rw e at fits
front_fits (byte ∷ front) rest used most none fits =
    let parts = and_parts (other_than 10 byte) (list_all (other_than 10) front) none in
    let e : used + suc (length front) ≡ used + 1 + length front = omega arith in
    let more = front_fits front rest (used + 1) most parts.1 (rw e at fits) in
    record { narrow = rw (not-true (eqb byte 10) parts.0) more.narrow; short = omega (arith, more.short) }

-- the end of a line
end_fits : (rest : List ℕ) (used most more : ℕ) → used ≤ 75 → 76 + most ≤ more → Fits 0 most rest → Fits used more (10 ∷ rest)
end_fits rest used most more low enough fits = record { narrow = omega (arith, low, fits.narrow); short = omega (arith, low, enough, fits.short) }

number_fits : (number : ℕ) → number < 65535 → (list_all (other_than 10) (decimal number) ≡ true) × (length (decimal number) ≤ 5)
number_fits number small = (
  number_bytes 10 number (λ digit is. ne_eqb digit 10 (λ e. absurd (omega (arith, is.0, e)))) small,
  length-decimal-le 5 number (omega arith) (omega arith) (omega arith),
)

before_bytes : (row : Row) → list_all (other_than 10) (before_rest row) ≡ true
before_bytes Over = refl
before_bytes _ = refl

width_bound : (lines : Lines) → AreLines lines → label_width lines ≤ 20
width_bound NoLine are = omega arith
width_bound (Line set row others) are = omega (arith, label_length set are.0, width_bound others are.3)

regroup : (indented column row others rest : List ℕ) →
    ((((indented ++ column) ++ 32 ∷ 58 ∷ 32 ∷ []) ++ row) ++ others) ++ rest ≡ indented ++ (column ++ (32 ∷ 58 ∷ 32 ∷ (row ++ (others ++ rest))))
regroup indented column row others rest = simp append_assoc

mutual
  row_fits : (row : Row) (level before used most : ℕ) (rest : List ℕ) → IsRow row → level + level_count row ≤ 5 → most_cards before row ≤ 5 →
      used ≤ 42 + 3 * before + max 1 (length (before_rest row)) → Fits 0 most rest → Fits used (76 + 76 * line_count row + most) (row_text level row ++ rest)
  row_fits Over level before used most rest is deep few low fits = end_fits rest used most _ (omega (arith, few, low)) (omega arith) fits
  row_fits (Plays card row) level before used most rest is deep few low fits =
      front_fits (card_text card) _ used _ (agree_below_at (λ c. list_all (other_than 10) (card_text c)) (λ _. true) 52 card refl is.0)
      (rw (append_assoc (before_rest row) (row_text level row) rest) (front_fits (before_rest row) _ (used + 2) _ (before_bytes row)
      (row_fits row level (before + 1) (used + 2 + length (before_rest row)) most rest is.1 deep few (omega (arith, low)) fits)))
  row_fits (Looks lines) level before used most rest is deep few low fits =
      front_fits (codes "look:") _ used _ refl (end_fits _ (used + 5) (76 * lines_count lines + most) _ (omega (arith, few, low)) (omega arith)
      (lines_fit lines (level + 1) (label_width lines) most rest is (width_bound lines is) (omega (arith, deep)) (omega (arith, few)) fits))
  row_fits (Named number) level before used most rest is deep few low fits =
      let plain = number_fits number is in
      front_fits (codes "see [") _ used _ refl (rw (append_assoc (decimal number) (codes "]\n") rest) (front_fits (decimal number) _ (used + 5) _ plain.0
      (front_fits (93 ∷ []) _ (used + 5 + length (decimal number)) _ refl
      (end_fits rest (used + 5 + length (decimal number) + 1) most _ (omega (arith, few, low, plain.1)) (omega arith) fits))))

  lines_fit : (lines : Lines) (level column most : ℕ) (rest : List ℕ) → AreLines lines → column ≤ 20 → level + levels_below lines ≤ 5 →
      most_cards_below lines ≤ 5 → Fits 0 most rest → Fits 0 (76 * lines_count lines + most) (lines_text level column lines ++ rest)
  lines_fit NoLine level column most rest are narrow deep few fits = weaker 0 most (0 + most) rest (omega arith) fits
  lines_fit (Line set row others) level column most rest are narrow deep few fits =
      let blank = column - length (label set) in
      let used = 0 + length (indent level) + length (label_column column set) in
      let short : used ≤ 40 = omega (arith, deep, narrow, label_length set are.0, length-append {A = ℕ}, length-replicate {A = ℕ}) in
      weaker 0 (76 + 76 * line_count row + (76 * lines_count others + most)) _ _ (omega arith)
      (rw (regroup (indent level) (label_column column set) (row_text level row) (lines_text level column others) rest)
      (front_fits (indent level) _ 0 _ (all_blanks (other_than 10) [] (4 * level) refl refl)
      (front_fits (label_column column set) _ (0 + length (indent level)) _ (no_end set blank are.0) (front_fits (codes " : ") _ used _ refl
      (row_fits row level 0 (used + 3) (76 * lines_count others + most) _ are.2 (omega (arith, deep)) (omega (arith, few)) (omega (arith, short))
      (lines_fit others level column most rest are.3 narrow (omega (arith, deep)) (omega (arith, few)) fits))))))

-- ---- sheets

-- a line is no shorter after one more byte
wider : (bytes : List ℕ) (used : ℕ) → longest_line used bytes ≤ longest_line (used + 1) bytes
wider [] used = omega arith
wider (byte ∷ bytes) used = grind (arith, wider bytes (used + 1))

paragraphs_fit : (paragraphs : List Paragraph) → AllByRecursion IsParagraph paragraphs → AllByRecursion (λ paragraph. IsSmall 5 5 paragraph.row) paragraphs →
    Fits 0 (76 * (sum_by line_count (map (λ paragraph. paragraph.row) paragraphs) + length paragraphs)) (flat_map paragraph_text paragraphs)
paragraphs_fit [] are small = record { narrow = omega arith; short = omega arith }
paragraphs_fit (paragraph ∷ paragraphs) are small =
    let row = paragraph.row in
    let rows = map (λ (p : Paragraph). p.row) paragraphs in
    let most = 76 * (sum_by line_count rows + length paragraphs) in
    let plain = number_fits paragraph.number are.0.0 in
    let digits = decimal paragraph.number in
    let numbered : List ℕ = 91 ∷ (digits ++ 93 ∷ 32 ∷ (row_text 0 row ++ flat_map paragraph_text paragraphs)) in
    let rest : Fits 1 (76 + 76 * line_count row + most) numbered =
    front_fits (91 ∷ []) _ 1 _ refl (front_fits digits _ 2 _ plain.0 (front_fits (93 ∷ 32 ∷ []) _ (2 + length digits) _ refl
    (row_fits row 0 0 (2 + length digits + 2) most _ are.0.1 (omega (arith, small.0.depth)) (small.0.width 0 (omega arith)) (omega (arith, plain.1))
    (paragraphs_fit paragraphs are.1 small.1)))) in
    rw (paragraph_is paragraph (flat_map paragraph_text paragraphs))
    (record { narrow = omega (arith, rest.narrow, wider numbered 0); short = omega (arith, rest.short, sum_by-cons line_count row rows) })

pub small_text : (sheet : Sheet) → IsSheet sheet → IsSmallSheet sheet →
    (longest_line 0 (sheet_text sheet) ≤ 75) × (length (sheet_text sheet) ≤ 76 * (sheet_lines sheet + length sheet.paragraphs + 1))
unfolding sheet_text
small_text sheet is small =
    let rows = map (λ (p : Paragraph). p.row) sheet.paragraphs in
    let fits = row_fits sheet.first 0 0 0 (76 * (sum_by line_count rows + length sheet.paragraphs)) _ is.0 (omega (arith, small.0.depth))
    (small.0.width 0 (omega arith)) (omega arith) (paragraphs_fit sheet.paragraphs is.1 small.1) in
    (fits.narrow, omega (arith, fits.short, sum_by-cons line_count sheet.first rows))
