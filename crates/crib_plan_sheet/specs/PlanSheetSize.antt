-- The size of a sheet: its lines, its levels, and the columns of its text.
use Rattle.std.specs.Prelude.{ℕ, ◌+◌, ◌==◌, max, List, [], ◌∷◌, map, if◌then◌else◌}
use Rattle.std.specs.List.{sum_by}
use Rattle.crib_text.specs.Spelling.{line_feed}
use Rattle.crib_plan_sheet.specs.PlanSheet.{Row, Lines, Sheet, Over, Plays, Looks, Named, NoLine, Line}

-- the lines below a row's look, at every level
abbrev mutual
  pub line_count : Row → ℕ
  line_count Over = 0
  line_count (Plays card row) = line_count row
  line_count (Looks lines) = lines_count lines
  line_count (Named number) = 0

  -- lines, and the lines below them
  pub lines_count : Lines → ℕ
  lines_count NoLine = 0
  lines_count (Line set row others) = 1 + line_count row + lines_count others

-- the levels of lines below a row: one for each look
abbrev mutual
  pub level_count : Row → ℕ
  level_count Over = 0
  level_count (Plays card row) = level_count row
  level_count (Looks lines) = 1 + levels_below lines
  level_count (Named number) = 0

  -- the levels of lines below some lines
  pub levels_below : Lines → ℕ
  levels_below NoLine = 0
  levels_below (Line set row others) = max (level_count row) (levels_below others)

-- the rows with which the paragraphs of a sheet begin, the first one's first
abbrev pub sheet_rows : Sheet → List Row
sheet_rows sheet = sheet.first ∷ map (λ paragraph. paragraph.row) sheet.paragraphs

-- the lines of a sheet below its looks
abbrev pub sheet_lines : Sheet → ℕ
sheet_lines sheet = sum_by line_count (sheet_rows sheet)

-- the length of the longest line of a text, with so many bytes before the text in its first line
abbrev pub longest_line : ℕ → List ℕ → ℕ
longest_line before [] = before
longest_line before (byte ∷ bytes) =
    if byte == line_feed then max before (longest_line 0 bytes) else longest_line (before + 1) bytes
