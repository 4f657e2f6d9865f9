-- A sheet can be read back from its text: two different sheets have different texts.
use Rattle.std.proofs.Common.{◌≡◌, ℕ, zero, suc, ◌+◌, ◌-◌, ◌*◌, ◌<◌, Bool, true, false, eqb, List, [], ◌∷◌, ◌++◌, length, replicate, codes}
use Rattle.std.proofs.Common.{decimal, flat_map, refl, sym, ap, ◌∙◌, arith, append_assoc}
use Rattle.std.specs.List.{list_any, list_all, AllByRecursion}
use Rattle.std.proofs.lemmas.Bool.Decides.{nat_tests}
use Rattle.std.proofs.lemmas.Bool.{ne_eqb}
use Rattle.std.proofs.lemmas.List.{append_cancel_left, replicate_more}
use Rattle.std.proofs.lemmas.Fmt.{decimal_injective}
use Rattle.crib_text.specs.Spelling.{space}
use Rattle.crib_plan.proofs.WordLemmas.{IsDigit, decimal_digits}
use Rattle.crib_cards.proofs.CardBytes.{no_card, same_cards}
use Rattle.crib_plan_sheet.specs.PlanSheet.{Row, Lines, Paragraph, Over, Plays, Looks, Named, NoLine, Line}
use Rattle.crib_plan_sheet.specs.PlanText.{label, indent, before_rest, row_text, lines_text, paragraph_text, sheet_text}
use Rattle.crib_plan_sheet.specs.PlanTextLaws.{IsRow, AreLines, IsParagraph, TextsHaveOneSheet}
use Rattle.crib_plan_sheet.proofs.PlanLabels.{other_than, blanks, same_labels, no_colon, label_first}

-- ---- cutting a text at a byte

cut_at : (byte : ℕ) (front front' rest rest' : List ℕ) → list_all (other_than byte) front ≡ true → list_all (other_than byte) front' ≡ true →
    front ++ byte ∷ rest ≡ front' ++ byte ∷ rest' → (front ≡ front') × (rest ≡ rest')
cut_at byte [] [] rest rest' none none' same = (refl, cc)
cut_at byte [] (first' ∷ front') rest rest' none none' same = grind (arith, nat_tests, none', same)
cut_at byte (first ∷ front) [] rest rest' none none' same = grind (arith, nat_tests, none, same)
cut_at byte (first ∷ front) (first' ∷ front') rest rest' none none' same =
    grind (arith, nat_tests, none, none', same, cut_at byte front front' rest rest')

-- ---- numbers

digits_other : (byte : ℕ) (digits : List ℕ) → ((digit : ℕ) → IsDigit digit → eqb digit byte ≡ false) → AllByRecursion IsDigit digits →
    list_all (other_than byte) digits ≡ true
digits_other byte [] other all = refl
digits_other byte (digit ∷ digits) other all = rw (other digit all.0, digits_other byte digits other all.1) refl

-- no byte of a number is one that no digit is
pub number_bytes : (byte number : ℕ) → ((digit : ℕ) → IsDigit digit → eqb digit byte ≡ false) → number < 65535 →
    list_all (other_than byte) (decimal number) ≡ true
number_bytes byte number other small = digits_other byte (decimal number) other (decimal_digits number (omega arith))

no_bracket : (number : ℕ) → number < 65535 → list_all (other_than 93) (decimal number) ≡ true
no_bracket number small = number_bytes 93 number (λ digit is. ne_eqb digit 93 (λ e. absurd (omega (arith, is.1, e)))) small

-- a number and its closing bracket
same_numbers : (number number' : ℕ) (rest rest' : List ℕ) → number < 65535 → number' < 65535 →
    decimal number ++ 93 ∷ rest ≡ decimal number' ++ 93 ∷ rest' → (number ≡ number') × (rest ≡ rest')
same_numbers number number' rest rest' small small' same =
    let cut = cut_at 93 (decimal number) (decimal number') rest rest' (no_bracket number small) (no_bracket number' small') same in
    (decimal_injective number number' (omega arith) (omega arith) cut.0, cut.1)

-- ---- blanks

blanks_more : (count : ℕ) (rest : List ℕ) → blanks (replicate count space ++ rest) ≡ count + blanks rest
blanks_more zero rest = omega arith
blanks_more (suc count) rest = omega (arith, blanks_more count rest)

-- ---- what begins a text

-- the bytes with which two texts begin

first_byte : (byte byte' : ℕ) (rest rest' : List ℕ) → byte ∷ rest ≡ byte' ∷ rest' → byte ≡ byte'
first_byte byte byte' rest rest' same = cc

after_card : (level : ℕ) (row row' : Row) (rest rest' : List ℕ) →
    (before_rest row ++ row_text level row) ++ rest ≡ (before_rest row' ++ row_text level row') ++ rest' →
    row_text level row ++ rest ≡ row_text level row' ++ rest'
after_card level row row' rest rest' same = grind (arith, same)

-- ---- a line

regroup : (indented name more row others rest : List ℕ) →
    ((((indented ++ (name ++ more)) ++ 32 ∷ 58 ∷ 32 ∷ []) ++ row) ++ others) ++ rest
    ≡ indented ++ ((name ++ (more ++ 32 ∷ [])) ++ 58 ∷ 32 ∷ (row ++ (others ++ rest)))
regroup indented name more row others rest = simp append_assoc

-- a line, cut before its label and at its colon
abbrev blanks_after : ℕ → List Bool → ℕ
blanks_after width set = width - length (label set) + 1

line_is : (level width : ℕ) (set : List Bool) (row : Row) (others : Lines) (rest : List ℕ) →
    lines_text level width (Line set row others) ++ rest
    ≡ indent level ++ ((label set ++ replicate (blanks_after width set) space) ++ 58 ∷ 32 ∷ (row_text level row ++ (lines_text level width others ++ rest)))
line_is level width set row others rest =
    regroup (indent level) (label set) (replicate (width - length (label set)) space) (row_text level row) (lines_text level width others) rest
    ∙ ap (λ (more : List ℕ). indent level ++ ((label set ++ more) ++ 58 ∷ 32 ∷ (row_text level row ++ (lines_text level width others ++ rest))))
    (replicate_more (width - length (label set)) space)

-- a line begins with four blanks for each level
blanks_line : (level width : ℕ) (set : List Bool) (row : Row) (others : Lines) (rest : List ℕ) → length set ≡ 14 → list_any (λ flag. flag) set ≡ true →
    blanks (lines_text level width (Line set row others) ++ rest) ≡ 4 * level
blanks_line level width set row others rest long some =
    let end : List ℕ = 58 ∷ 32 ∷ (row_text level row ++ (lines_text level width others ++ rest)) in
    let blank : List ℕ = replicate (blanks_after width set) space in
    let name = label_first set (blank ++ end) long some in
    omega (arith, ap blanks (line_is level width set row others rest), blanks_more, ap blanks (append_assoc (label set) blank end), name)

blanks_lines : (level width : ℕ) (lines : Lines) (rest : List ℕ) → AreLines lines → blanks rest < 4 * level →
    blanks (lines_text level width lines ++ rest) < 4 * (level + 1)
blanks_lines level width NoLine rest are less = omega arith
blanks_lines level width (Line set row others) rest are less = omega (arith, blanks_line level width set row others rest are.0 are.1)

-- ---- rows and lines

mutual
  same_rows : (row : Row) (level : ℕ) (row' : Row) (rest rest' : List ℕ) → IsRow row → IsRow row' →
      blanks rest < 4 * (level + 1) → blanks rest' < 4 * (level + 1) → row_text level row ++ rest ≡ row_text level row' ++ rest' →
      (row ≡ row') × (rest ≡ rest')
  same_rows Over level Over rest rest' is is' few few' same = (refl, append_cancel_left (10 ∷ []) rest rest' same)
  same_rows (Plays card row) level (Plays card' row') rest rest' is is' few few' same =
      let cut = same_cards card card' _ _ is.0 is'.0 same in
      let after = same_rows row level row' rest rest' is.1 is'.1 few few' (after_card level row row' rest rest' cut.1) in
      (let e : card ≡ card' = cut.0 in let f : row ≡ row' = after.0 in cc, after.1)
  same_rows (Looks lines) level (Looks lines') rest rest' is is' few few' same =
      let below = same_lines lines (level + 1) _ _ lines' rest rest' is is' few few' (append_cancel_left (codes "look:\n") _ _ same) in
      (ap Looks below.0, below.1)
  same_rows (Named number) level (Named number') rest rest' is is' few few' same =
      let numbered = append_cancel_left (codes "see [") _ _ same in
      let cut = same_numbers number number' (10 ∷ rest) (10 ∷ rest') is is'
      (sym (append_assoc (decimal number) (codes "]\n") rest) ∙ numbered ∙ append_assoc (decimal number') (codes "]\n") rest') in
      (ap Named cut.0, append_cancel_left (10 ∷ []) rest rest' cut.1)
  same_rows (Plays card row) level _ rest rest' is is' few few' same = absurd (no_card _ card refl is.0 (first_byte _ _ _ _ same))
  same_rows _ level (Plays card' row') rest rest' is is' few few' same = absurd (no_card _ card' refl is'.0 (sym (first_byte _ _ _ _ same)))
  same_rows _ level _ rest rest' is is' few few' same = absurd (let e = first_byte _ _ _ _ same in omega (arith, e))

  same_lines : (lines : Lines) (level width width' : ℕ) (lines' : Lines) (rest rest' : List ℕ) → AreLines lines → AreLines lines' →
      blanks rest < 4 * level → blanks rest' < 4 * level → lines_text level width lines ++ rest ≡ lines_text level width' lines' ++ rest' →
      (lines ≡ lines') × (rest ≡ rest')
  same_lines NoLine level width width' NoLine rest rest' are are' few few' same = (refl, same)
  same_lines NoLine level width width' (Line set' row' others') rest rest' are are' few few' same =
      absurd (omega (arith, ap blanks same, blanks_line level width' set' row' others' rest' are'.0 are'.1))
  same_lines (Line set row others) level width width' NoLine rest rest' are are' few few' same =
      absurd (omega (arith, ap blanks same, blanks_line level width set row others rest are.0 are.1))
  same_lines (Line set row others) level width width' (Line set' row' others') rest rest' are are' few few' same =
      let end : List ℕ = lines_text level width others ++ rest in
      let end' : List ℕ = lines_text level width' others' ++ rest' in
      let lined = append_cancel_left (indent level) _ _ (sym (line_is level width set row others rest) ∙ same ∙ line_is level width' set' row' others' rest') in
      let cut = cut_at 58 _ _ _ _ (no_colon set (blanks_after width set) are.0) (no_colon set' (blanks_after width' set') are'.0) lined in
      let colon : 32 ∷ (row_text level row ++ end) ≡ 32 ∷ (row_text level row' ++ end') = cut.1 in
      let e : set ≡ set' = same_labels set set' (blanks_after width set) (blanks_after width' set') are.0 are'.0 cut.0 in
      let here = same_rows row level row' end end' are.2 are'.2
      (blanks_lines level width others rest are.3 few) (blanks_lines level width' others' rest' are'.3 few') cc in
      let after = same_lines others level width width' others' rest rest' are.3 are'.3 few few' here.1 in
      (let f : row ≡ row' = here.0 in let g : others ≡ others' = after.0 in cc, after.1)

-- ---- sheets

paragraph_regroup : (numbered row more : List ℕ) → ((10 ∷ 91 ∷ (numbered ++ 93 ∷ 32 ∷ [])) ++ row) ++ more ≡ 10 ∷ 91 ∷ (numbered ++ 93 ∷ 32 ∷ (row ++ more))
paragraph_regroup numbered row more = simp append_assoc

pub paragraph_is : (paragraph : Paragraph) (more : List ℕ) →
    paragraph_text paragraph ++ more ≡ 10 ∷ 91 ∷ (decimal paragraph.number ++ 93 ∷ 32 ∷ (row_text 0 paragraph.row ++ more))
unfolding paragraph_text
paragraph_is paragraph more = paragraph_regroup (decimal paragraph.number) (row_text 0 paragraph.row) more

-- no paragraph goes on with a line of the row before it
blanks_paragraphs : (paragraphs : List Paragraph) → blanks (flat_map paragraph_text paragraphs) < 4
blanks_paragraphs [] = omega arith
blanks_paragraphs (paragraph ∷ paragraphs) =
    omega (arith, ap blanks (paragraph_is paragraph (flat_map paragraph_text paragraphs)))

same_paragraphs : (paragraphs paragraphs' : List Paragraph) → AllByRecursion IsParagraph paragraphs → AllByRecursion IsParagraph paragraphs' →
    flat_map paragraph_text paragraphs ≡ flat_map paragraph_text paragraphs' → paragraphs ≡ paragraphs'
same_paragraphs [] [] are are' same = refl
same_paragraphs [] (paragraph' ∷ paragraphs') are are' same = absurd (omega (arith, ap length (same ∙ paragraph_is paragraph' _)))
same_paragraphs (paragraph ∷ paragraphs) [] are are' same = absurd (omega (arith, ap length (sym same ∙ paragraph_is paragraph _)))
same_paragraphs (paragraph ∷ paragraphs) (paragraph' ∷ paragraphs') are are' same =
    let numbered = append_cancel_left (10 ∷ 91 ∷ []) _ _ (sym (paragraph_is paragraph _) ∙ same ∙ paragraph_is paragraph' _) in
    let cut = same_numbers paragraph.number paragraph'.number _ _ are.0.0 are'.0.0 numbered in
    let rows = same_rows paragraph.row 0 paragraph'.row _ _ are.0.1 are'.0.1 (blanks_paragraphs paragraphs) (blanks_paragraphs paragraphs')
    (append_cancel_left (32 ∷ []) _ _ cut.1) in
    let others : paragraphs ≡ paragraphs' = same_paragraphs paragraphs paragraphs' are.1 are'.1 rows.1 in
    (λ i. record { number = cut.0 i; row = rows.0 i } ∷ others i)

pub one_text : TextsHaveOneSheet
unfolding sheet_text
one_text sheet sheet' is is' same =
    let rows = same_rows sheet.first 0 sheet'.first _ _ is.0 is'.0 (blanks_paragraphs sheet.paragraphs) (blanks_paragraphs sheet'.paragraphs) same in
    let others = same_paragraphs sheet.paragraphs sheet'.paragraphs is.1 is'.1 rows.1 in
    (λ i. record { first = rows.0 i; paragraphs = others i })
