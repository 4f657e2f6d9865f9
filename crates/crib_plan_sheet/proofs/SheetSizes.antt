-- When a row is small: it has few levels of lines below it, and few cards in each line.
use Rattle.std.proofs.Common.{ℕ, ◌+◌, ◌≤◌, max}
use Rattle.std.specs.List.{AllByRecursion}
use Rattle.crib_plan_sheet.specs.PlanSheet.{Row, Lines, Sheet, Over, Plays, Looks, Named, NoLine, Line}
use Rattle.crib_plan_sheet.specs.PlanSheetSize.{level_count}

-- the most cards in one line: in a row after some cards, or in a line below it
abbrev mutual
  pub most_cards : ℕ → Row → ℕ
  most_cards before Over = before
  most_cards before (Plays card row) = most_cards (before + 1) row
  most_cards before (Looks lines) = max before (most_cards_below lines)
  most_cards before (Named number) = before

  -- the most cards in one of some lines, or in a line below them
  pub most_cards_below : Lines → ℕ
  most_cards_below NoLine = 0
  most_cards_below (Line set row others) = max (most_cards 0 row) (most_cards_below others)

-- a row has at most so many levels. It begins with at most so many cards, and has lines of at most five cards
pub record IsSmall (levels cards : ℕ) (row : Row) : Type 0 where
  pub depth : level_count row ≤ levels
  pub width : (before : ℕ) → before + cards ≤ 5 → most_cards before row ≤ 5

-- each row of a sheet has at most five levels, and lines of at most five cards
abbrev pub IsSmallSheet : Sheet → Type 0
IsSmallSheet sheet = IsSmall 5 5 sheet.first × AllByRecursion (λ paragraph. IsSmall 5 5 paragraph.row) sheet.paragraphs
