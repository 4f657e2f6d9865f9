-- The sheet of a plan: paragraphs of lines that show the owner what to play.
use Rattle.std.specs.Prelude.{ℕ, ◌+◌, ◌==◌, Bool, false, List, [], ◌∷◌, map, filter, slice_get, take}
use Rattle.std.specs.Prelude.{Option, Some, None, unwrap_or, if◌then◌else◌}
use Rattle.std.specs.List.{list_any}
use Rattle.crib_cards.specs.Letters.{letter_index}
use Rattle.crib_cards.specs.declared.letters.Letter.{Letter}
use Rattle.crib_plan.specs.declared.plan.Next.{Next}
use Rattle.crib_plan.specs.declared.plan.Next.TheVariants.{End, To}
use Rattle.crib_plan.specs.declared.plan.Node.{Node}
use Rattle.crib_plan.specs.declared.plan.Node.TheVariants.{Play, See}
use Rattle.crib_plan.specs.Places.{plan_start}
use Rattle.crib_plan.specs.Spelling.{leads_to}

-- a row of a sheet, from some point on: nothing more; or a card to play, and the row after it; or a look at what the
-- opponent shows, with lines below it; or the number of the paragraph in which the row goes on
mutual
  pub data Row : Type 0 where
    Over : Row
    Plays : ℕ → Row → Row
    Looks : Lines → Row
    Named : ℕ → Row

  -- the lines below a look, each with the letters that it is for, and its row. The list says for each of the fourteen
  -- letters whether the line is for it
  pub data Lines : Type 0 where
    NoLine : Lines
    Line : List Bool → Row → Lines → Lines

-- a paragraph: its number, and its row
pub record Paragraph : Type 0 where
  pub number : ℕ
  pub row : Row

-- a sheet: the row with which it begins, and its other paragraphs
pub record Sheet : Type 0 where
  pub first : Row
  pub paragraphs : List Paragraph

-- the row of the paragraph with a number
abbrev pub row_named : List Paragraph → ℕ → Row
row_named [] number = Over
row_named (paragraph ∷ others) number =
    if paragraph.number == number then paragraph.row else row_named others number

-- where a reader goes on: at a row that names a paragraph, in that paragraph
abbrev pub read_on : Sheet → Row → Row
read_on sheet Over = Over
read_on sheet (Plays card row) = Plays card row
read_on sheet (Looks lines) = Looks lines
read_on sheet (Named number) = row_named sheet.paragraphs number

-- the card that a sheet states to a reader who is at this row
abbrev pub card_on : Row → Option ℕ
card_on Over = None
card_on (Plays card row) = Some card
card_on (Looks lines) = None
card_on (Named number) = None

-- where a reader is after a card of the owner: after the card that was stated
abbrev pub read_card : Sheet → Row → Row
read_card sheet Over = Over
read_card sheet (Plays card row) = read_on sheet row
read_card sheet (Looks lines) = Looks lines
read_card sheet (Named number) = Named number

-- whether a line is for a letter
abbrev pub is_for : List Bool → Letter → Bool
is_for set letter = unwrap_or (slice_get set (letter_index letter)) false

-- the row of the first line that is for a letter. If no line is, nothing more is stated
abbrev pub row_for : Lines → Letter → Row
row_for NoLine letter = Over
row_for (Line set row others) letter = if is_for set letter then row else row_for others letter

-- where a reader is after a letter of the opponent: at a look, in the line for this letter; otherwise, where they were
abbrev pub read_letter : Sheet → Row → Letter → Row
read_letter sheet Over letter = Over
read_letter sheet (Plays card row) letter = Plays card row
read_letter sheet (Looks lines) letter = read_on sheet (row_for lines letter)
read_letter sheet (Named number) letter = Named number

-- a turn, as the reader of a sheet sees it: a card of the owner, or a letter of the opponent
pub data Turn : Type 0 where
  OwnCard : Turn
  Shown : Letter → Turn

-- where a reader is after a turn
abbrev pub read_turn : Sheet → Row → Turn → Row
read_turn sheet row OwnCard = read_card sheet row
read_turn sheet row (Shown letter) = read_letter sheet row letter

-- where a reader is after some turns
abbrev pub read_turns : Sheet → Row → List Turn → Row
read_turns sheet row [] = row
read_turns sheet row (turn ∷ turns) = read_turns sheet (read_turn sheet row turn) turns

-- the card that a sheet states after some turns
unfoldable pub sheet_card : Sheet → List Turn → Option ℕ
sheet_card sheet turns = card_on (read_turns sheet (read_on sheet sheet.first) turns)

-- the row of a place, with some nodes in paragraphs of their own, from the rows of the later nodes
abbrev pub row_to : (ℕ → Bool) → List Paragraph → Next → Row
row_to apart later End = Over
row_to apart later (To node) = if apart node then Named node else row_named later node

-- the lines of a see node, one for each node that a letter leads to, in the order of their first letters. `from` is the
-- index of the first letter that is still ahead
abbrev pub lines_to : (ℕ → Bool) → List Paragraph → List Next → ℕ → List Next → Lines
lines_to apart later all from [] = NoLine
lines_to apart later all from (End ∷ branches) = lines_to apart later all (from + 1) branches
lines_to apart later all from (To node ∷ branches) =
    if list_any (leads_to node) (take from all) then lines_to apart later all (from + 1) branches
    else
    Line (map (leads_to node) all) (row_to apart later (To node)) (lines_to apart later all (from + 1) branches)

-- the row of a node, from those of the later nodes
abbrev pub row_of : (ℕ → Bool) → List Paragraph → Node → Row
row_of apart later (Play card next) = Plays card (row_to apart later next)
row_of apart later (See branches) = Looks (lines_to apart later branches 0 branches)

-- a node's row, before those of the later nodes
abbrev pub with_row : (ℕ → Bool) → ℕ → Node → List Paragraph → List Paragraph
with_row apart number node later = record { number = number; row = row_of apart later node } ∷ later

-- the rows of some nodes from a number on
abbrev pub rows_from : (ℕ → Bool) → ℕ → List Node → List Paragraph
rows_from apart number [] = []
rows_from apart number (node ∷ nodes) = with_row apart number node (rows_from apart (number + 1) nodes)

-- the sheet of a plan with some of its nodes in paragraphs of their own
unfoldable pub sheet_with : (ℕ → Bool) → List Node → Sheet
sheet_with apart plan = record {
  first = row_to apart (rows_from apart 0 plan) (plan_start plan);
  paragraphs = filter (λ paragraph. apart paragraph.number) (rows_from apart 0 plan);
}
