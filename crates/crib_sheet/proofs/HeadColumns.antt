-- The head of a plan's sheet: no line is wide, and the numbers of its rows end in one column.
use Rattle.std.proofs.Common.{◌≡◌, ℕ, ◌+◌, ◌-◌, ◌/◌, ◌%◌, ◌^◌, ◌<◌, ◌≤◌, Bool, true, false, Option, None, Some, List, [], ◌∷◌, ◌++◌}
use Rattle.std.proofs.Common.{length, length-append, get_or, codes, decimal, replicate, refl, sym, subst, arith, append_assoc}
use Rattle.std.specs.Prelude.{◌==◌, if◌then◌else◌, sum_by}
use Rattle.std.specs.List.{All}
use Rattle.std.proofs.lemmas.Bool.Decides.{nat_tests}
use Rattle.std.proofs.lemmas.Fmt.{length-decimal-le}
use Rattle.std.proofs.lemmas.List.{length-replicate}
use Rattle.std.proofs.lemmas.List.Elements.{All-head, All-tail}
use Rattle.std.proofs.lemmas.List.Sums.{get_or-le-sum_by}
use Rattle.crib_text.proofs.RoomLemmas.{ten_digits}
use Rattle.crib_text.specs.Spelling.{space}
use Rattle.crib_problem.specs.Setup.{Setup}
use Rattle.crib_plan.specs.declared.plan.Node.{Node}
use Rattle.crib_beaten.specs.declared.rows.Row.{Row}
use Rattle.crib_beaten.specs.declared.rows.Rows.{Rows}
use Rattle.crib_plan_sheet.specs.PlanSheetSize.{longest_line}
use Rattle.crib_sheet.specs.PlanBeaten.{AreHandsOf, IsAligned, beating_text, deals_line, deals_word, grouped, hands_text, others_line, row_lines}
use Rattle.crib_sheet.specs.PlanBeaten.{rows_lines, term_text, with_commas}

-- ---- numbers

-- a comma for each three digits but the first ones
commas : (digits : List ℕ) → length (with_commas digits) ≡ length digits + (length digits - 1) / 3
commas [] = refl
commas (digit ∷ digits) =
    let rest = commas digits in
    grind (arith, nat_tests, rest)

of_four_bytes : (number : ℕ) → number < 2 ^ 32 → length (grouped number) ≤ 13
of_four_bytes number small = omega (arith, ten_digits number small, commas (decimal number))

of_nine_digits : (number : ℕ) → number < 10 ^ 9 → length (grouped number) ≤ 11
of_nine_digits number small =
    let digits = length-decimal-le 9 number (omega arith) small (omega arith) in
    omega (arith, digits, commas (decimal number))

-- ---- lines

at_least : (bytes : List ℕ) (used : ℕ) → used ≤ longest_line used bytes
at_least [] used = omega arith
at_least (byte ∷ bytes) used = grind (arith, nat_tests, at_least bytes (used + 1))

-- a line is no shorter after more bytes
after_more : (bytes : List ℕ) (used more : ℕ) → used ≤ more → longest_line used bytes ≤ longest_line more bytes
after_more [] used more less = less
after_more (byte ∷ bytes) used more less = grind (arith, nat_tests, less, after_more bytes (used + 1) (more + 1))

-- bytes of which nothing is known but how many they are, before a text that is narrow after so many
behind_bytes : (front rest : List ℕ) (used most : ℕ) → longest_line (used + length front) rest ≤ most → longest_line used (front ++ rest) ≤ most
behind_bytes [] rest used most narrow = let e : used + 0 ≡ used = omega arith in rw e at narrow
behind_bytes (byte ∷ front) rest used most narrow =
    let here : used + length (byte ∷ front) ≤ most = omega (arith, narrow, at_least rest (used + length (byte ∷ front))) in
    let new = behind_bytes front rest 0 most (omega (arith, narrow, after_more rest (0 + length front) (used + length (byte ∷ front)) (omega arith))) in
    let e : used + length (byte ∷ front) ≡ used + 1 + length front = omega arith in
    let same = behind_bytes front rest (used + 1) most (rw e at narrow) in
    grind (arith, nat_tests, here, new, same)

-- ---- a line of a row or of the others

parts_length : (front blank gap figure word : List ℕ) →
    length (codes "   " ++ front ++ blank ++ gap ++ figure ++ word ++ codes "\n")
    ≡ 4 + length front + length blank + length gap + length figure + length word
parts_length front blank gap figure word = omega (
  arith,
  length-append (codes "   ") front,
  length-append (codes "   " ++ front) blank,
  length-append (codes "   " ++ front ++ blank) gap,
  length-append (codes "   " ++ front ++ blank ++ gap) figure,
  length-append (codes "   " ++ front ++ blank ++ gap ++ figure) word,
  length-append (codes "   " ++ front ++ blank ++ gap ++ figure ++ word) (codes "\n"),
)

-- a line with a word behind its number
line_length : (front word : List ℕ) (deals : ℕ) → length (deals_line front deals word) ≡ length (deals_line front deals []) + length word
unfolding deals_line
line_length front word deals =
    let blank = replicate (25 - length front) space in
    let gap = replicate (11 - length (grouped deals)) space in
    omega (arith, parts_length front blank gap (grouped deals) word, parts_length front blank gap (grouped deals) [])

is_aligned : (front : List ℕ) (deals : ℕ) → length front ≤ 25 → deals < 10 ^ 9 → IsAligned front deals
unfolding deals_line
is_aligned front deals short few = omega (
  arith,
  short,
  of_nine_digits deals few,
  parts_length front (replicate (25 - length front) space) (replicate (11 - length (grouped deals)) space) (grouped deals) [],
  length-replicate (25 - length front) space,
  length-replicate (11 - length (grouped deals)) space,
)

pub aligned_rows : (rows : List Row) (others beaten : ℕ) → All (λ (row : Row). length (term_text row.term) ≤ 24) rows →
    sum_by (λ (row : Row). row.deals) rows + others ≡ beaten → beaten < 10 ^ 9 → All (λ (row : Row). IsAligned (term_text row.term) row.deals) rows
aligned_rows rows others beaten narrow sum few k d less =
    let short = narrow k d less in
    let part = get_or-le-sum_by (λ (row : Row). row.deals) rows k d less in
    is_aligned (term_text (get_or rows k d).term) (get_or rows k d).deals (omega (arith, short)) (omega (arith, part, sum, few))

pub aligned_others : (others : ℕ) → others < 10 ^ 9 → IsAligned (codes " and others") others
aligned_others others few = is_aligned (codes " and others") others (omega arith) few

-- a line before others
line_narrow : (front word rest : List ℕ) (deals : ℕ) → IsAligned front deals → length word ≤ 6 → longest_line 0 rest ≤ 78 →
    longest_line 0 (deals_line front deals word ++ rest) ≤ 78
unfolding deals_line
line_narrow front word rest deals is brief narrow =
    ended front (replicate (25 - length front) space) (replicate (11 - length (grouped deals)) space) (grouped deals) word rest
    (omega (arith, brief, is, line_length front word deals)) narrow
  where
    ended : (front blank gap figure word rest : List ℕ) → length (codes "   " ++ front ++ blank ++ gap ++ figure ++ word ++ codes "\n") ≤ 79 →
        longest_line 0 rest ≤ 78 → longest_line 0 ((codes "   " ++ front ++ blank ++ gap ++ figure ++ word ++ codes "\n") ++ rest) ≤ 78
    ended front blank gap figure word rest wide narrow =
        let line = codes "   " ++ front ++ blank ++ gap ++ figure ++ word in
        subst (λ (text : List ℕ). longest_line 0 text ≤ 78) (sym (append_assoc line (codes "\n") rest))
        (behind_bytes line (codes "\n" ++ rest) 0 78 (omega (arith, narrow, wide, length-append line (codes "\n"))))

-- ---- all lines

rows_narrow : (word : List ℕ) (rows : List Row) (rest : List ℕ) → All (λ (row : Row). IsAligned (term_text row.term) row.deals) rows →
    length word ≤ 6 → longest_line 0 rest ≤ 78 → longest_line 0 (row_lines word rows ++ rest) ≤ 78
rows_narrow word [] rest are brief narrow = narrow
rows_narrow word (row ∷ rows) rest are brief narrow =
    let others = All-tail (λ (row : Row). IsAligned (term_text row.term) row.deals) row rows are in
    subst (λ (text : List ℕ). longest_line 0 text ≤ 78)
    (sym (append_assoc (deals_line (term_text row.term) row.deals word) (row_lines [] rows) rest))
    (line_narrow (term_text row.term) word (row_lines [] rows ++ rest) row.deals
    (All-head (λ (row : Row). IsAligned (term_text row.term) row.deals) row rows are) brief (rows_narrow [] rows rest others (omega arith) narrow))

brief_word : (deals : ℕ) → length (deals_word deals) ≤ 6
brief_word deals = grind (arith, nat_tests)

all_rows_narrow : (rows : List Row) (rest : List ℕ) → All (λ (row : Row). IsAligned (term_text row.term) row.deals) rows → longest_line 0 rest ≤ 78 →
    longest_line 0 (rows_lines rows ++ rest) ≤ 78
all_rows_narrow [] rest are narrow = narrow
all_rows_narrow (row ∷ rows) rest are narrow = rows_narrow (deals_word row.deals) (row ∷ rows) rest are (brief_word row.deals) narrow

others_narrow : (others : ℕ) (rest : List ℕ) → IsAligned (codes " and others") others → longest_line 0 rest ≤ 78 →
    longest_line 0 (others_line others ++ rest) ≤ 78
others_narrow others rest is narrow = by (others == 0)
  where
    by : (none : Bool) → longest_line 0 ((if none then [] else deals_line (codes " and others") others []) ++ rest) ≤ 78
    by true = narrow
    by false = line_narrow (codes " and others") [] rest others is (omega arith) narrow

hands_narrow : (problem : Setup) (plan : List Node) (open_deals beaten : ℕ) (hands : Option Rows) → AreHandsOf problem plan open_deals beaten hands →
    longest_line 31 (hands_text hands) ≤ 78
hands_narrow problem plan open_deals beaten None are = omega arith
hands_narrow problem plan open_deals beaten (Some rows) are =
    let end = codes "\nIn brackets: one card of these ranks. Hands of two rows are in the first.\n" in
    let lines = all_rows_narrow rows.rows.items (others_line rows.others ++ end) are.1.aligned
    (others_narrow rows.others end are.1.others_aligned (omega arith)) in
    subst (λ (text : List ℕ). longest_line 31 text ≤ 78)
    (grouping (codes " They then hold, at least:\n\n") (rows_lines rows.rows.items) (others_line rows.others) end)
    (omega (arith, lines))
  where
    grouping : (a b c d : List ℕ) → a ++ (b ++ (c ++ d)) ≡ a ++ b ++ c ++ d
    grouping a b c d = simp append_assoc

-- a figure before a text
behind_figure : (number : ℕ) (rest : List ℕ) (used : ℕ) → number < 2 ^ 32 → longest_line (used + 13) rest ≤ 78 →
    longest_line used (grouped number ++ rest) ≤ 78
behind_figure number rest used small narrow =
    behind_bytes (grouped number) rest used 78
    (omega (arith, narrow, after_more rest (used + length (grouped number)) (used + 13) (omega (arith, of_four_bytes number small))))

pub beating_narrow : (problem : Setup) (plan : List Node) (open_deals beaten : ℕ) (hands : Option Rows) → open_deals < 2 ^ 32 → beaten < 2 ^ 32 →
    AreHandsOf problem plan open_deals beaten hands → longest_line 0 (beating_text open_deals beaten hands) ≤ 78
unfolding beating_text
beating_narrow problem plan open_deals beaten hands small few are =
    let last = behind_figure beaten (codes " they can beat it." ++ hands_text hands) 0 few (hands_narrow problem plan open_deals beaten hands are) in
    let middle = behind_figure open_deals
    (codes " deals that they may have, whatever they play. With the other\n" ++ (grouped beaten ++ (codes " they can beat it." ++ hands_text hands)))
    0 small (omega (arith, last)) in
    subst (λ (text : List ℕ). longest_line 0 text ≤ 78)
    (grouping (codes "This plan is not sure. It reaches your goal with ") (grouped (open_deals - beaten)) (codes " of the\n") (grouped open_deals)
    (codes " deals that they may have, whatever they play. With the other\n") (grouped beaten) (codes " they can beat it.") (hands_text hands))
    (behind_figure (open_deals - beaten) _ 49 (omega (arith, small)) (omega (arith, middle)))
  where
    grouping : (a b c d e f g h : List ℕ) → a ++ (b ++ (c ++ (d ++ (e ++ (f ++ (g ++ h)))))) ≡ a ++ b ++ c ++ d ++ e ++ f ++ g ++ h
    grouping a b c d e f g h = simp append_assoc
