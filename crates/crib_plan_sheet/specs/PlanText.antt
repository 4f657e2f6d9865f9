-- The text of the sheet of a plan: a paragraph for its first row, and one for each row that has a number.
use Rattle.std.specs.Prelude.{ℕ, zero, suc, ◌+◌, ◌-◌, ◌*◌, max, Bool, true, false, List, [], ◌∷◌, ◌++◌, length}
use Rattle.std.specs.Prelude.{flat_map, take, drop, replicate, slice_get, unwrap_or, codes, decimal}
use Rattle.std.specs.List.{join_with_byte}
use Rattle.crib_cards.specs.CardText.{card_text}
use Rattle.crib_text.specs.Spelling.{space, line_feed}
use Rattle.crib_plan.specs.Spelling.{letter_bytes}
use Rattle.crib_plan_sheet.specs.PlanSheet.{Row, Lines, Paragraph, Sheet, Over, Plays, Looks, Named, NoLine, Line}

-- ---- the letters of a line

-- the byte of the letter with an index
abbrev pub letter_byte : ℕ → ℕ
letter_byte index = unwrap_or (slice_get letter_bytes index) 0

-- the words for neighbouring ranks, by the index behind the last one and their number. One or two are words of their
-- own, and three or more are a range
abbrev pub range_words : ℕ → ℕ → List (List ℕ)
range_words index zero = []
range_words index (suc zero) = (letter_byte (index - 1) ∷ []) ∷ []
range_words index (suc (suc zero)) = (letter_byte (index - 2) ∷ []) ∷ (letter_byte (index - 1) ∷ []) ∷ []
range_words index (suc (suc (suc more))) =
    (letter_byte (index - (3 + more)) ∷ codes "-" ++ letter_byte (index - 1) ∷ []) ∷ []

-- the words for a set of ranks from an index on, after some neighbouring ranks before it
unfoldable pub rank_words : ℕ → ℕ → List Bool → List (List ℕ)
rank_words index before [] = range_words index before
rank_words index before (true ∷ set) = rank_words (index + 1) (before + 1) set
rank_words index before (false ∷ set) = range_words index before ++ rank_words (index + 1) 0 set

-- the word for a go, if it is in a set
abbrev pub go_words : List Bool → List (List ℕ)
go_words [] = []
go_words (true ∷ set) = codes "go" ∷ []
go_words (false ∷ set) = []

-- the letters of a line, with a space between two words: `A 4-K go`
unfoldable pub label : List Bool → List ℕ
label set = join_with_byte space (rank_words 0 0 (take 13 set) ++ go_words (drop 13 set))

-- the length of the longest label of some lines
abbrev pub label_width : Lines → ℕ
label_width NoLine = 0
label_width (Line set row others) = max (length (label set)) (label_width others)

-- a label in columns of this width
abbrev pub label_column : ℕ → List Bool → List ℕ
label_column width set = label set ++ replicate (width - length (label set)) space

-- ---- rows

-- the blanks before a line at a level: four for each level
abbrev pub indent : ℕ → List ℕ
indent level = replicate (4 * level) space

-- what is between a card and the rest of its row
abbrev pub before_rest : Row → List ℕ
before_rest Over = []
before_rest (Plays card row) = space ∷ []
before_rest (Looks lines) = codes ", then "
before_rest (Named number) = codes ", then "

-- a row, and the lines of its look, which are a level deeper: `8H 2S`, `8H, then look:`, `8H, then see [7]`
abbrev mutual
  pub row_text : ℕ → Row → List ℕ
  row_text level Over = line_feed ∷ []
  row_text level (Plays card row) = card_text card ++ before_rest row ++ row_text level row
  row_text level (Looks lines) = codes "look:\n" ++ lines_text (level + 1) (label_width lines) lines
  row_text level (Named number) = codes "see [" ++ decimal number ++ codes "]\n"

  -- the lines of a look at a level, with their labels in columns of this width
  pub lines_text : ℕ → ℕ → Lines → List ℕ
  lines_text level width NoLine = []
  lines_text level width (Line set row others) =
      indent level ++ label_column width set ++ codes " : " ++ row_text level row ++ lines_text level width others

-- a paragraph with a number, after an empty line
unfoldable pub paragraph_text : Paragraph → List ℕ
paragraph_text paragraph =
    line_feed ∷ codes "[" ++ decimal paragraph.number ++ codes "] " ++ row_text 0 paragraph.row

-- the text of a sheet
unfoldable pub sheet_text : Sheet → List ℕ
sheet_text sheet = row_text 0 sheet.first ++ flat_map paragraph_text sheet.paragraphs
