-- The rows and lines of a plan's sheet, by the places of the plan.
use Rattle.std.specs.Prelude.{ℕ, ◌≤◌, ◌<◌, Bool, List, [], ◌∷◌, ◌++◌, filter, flat_map, take, drop, codes}
use Rattle.crib_text.specs.Spelling.{space}
use Rattle.crib_plan.specs.declared.plan.Next.{Next}
use Rattle.crib_plan.specs.declared.plan.Next.TheVariants.{End, To}
use Rattle.crib_plan.specs.declared.plan.Node.{Node}
use Rattle.crib_plan.specs.Places.{plan_start}
use Rattle.crib_plan_sheet.specs.PlanSheet.{Row, Lines, row_named, row_to, lines_to, rows_from}
use Rattle.crib_plan_sheet.specs.PlanText.{indent, label_column, row_text, label_width, rank_words, go_words}
use Rattle.crib_plan_sheet.specs.PlanText.{paragraph_text}
use Rattle.crib_plan_sheet.specs.PlanOutline.{apart_in}
use Rattle.crib_plan_sheet.specs.PlanPage.{no_card}

-- a row may begin at a place on this level: the node is one of the plan, and has as many nodes before it
abbrev pub IsDeep : ℕ → ℕ → Next → Type 0
IsDeep level count End = Unit {0}
IsDeep level count (To node) = (level ≤ node) × (node < count)

-- the row of a node
unfoldable pub node_row : List Bool → List Node → ℕ → Row
node_row flags plan node = row_named (rows_from (apart_in flags) 0 plan) node

-- the row of a place: that of its node, or the number of the node's paragraph
unfoldable pub place_row : List Bool → List Node → Next → Row
place_row flags plan place = row_to (apart_in flags) (rows_from (apart_in flags) 0 plan) place

-- the lines of a look from a letter on
unfoldable pub lines_at : List Bool → List Node → List Next → ℕ → Lines
lines_at flags plan branches from =
    lines_to (apart_in flags) (rows_from (apart_in flags) 0 plan) branches from (drop from branches)

-- the width of the labels of the lines from a letter on
unfoldable pub width_at : List Next → ℕ → ℕ
width_at branches from = label_width (lines_to (apart_in []) [] branches from (drop from branches))

-- what is before the row of a line
unfoldable pub line_front : ℕ → ℕ → List Bool → List ℕ
line_front level width set = indent level ++ label_column width set ++ codes " : "

-- words, each after a space
abbrev pub spaced : List (List ℕ) → List ℕ
spaced words = flat_map (λ (word : List ℕ). space ∷ word) words

-- the words of a label, each after a space
unfoldable pub spaced_label : List Bool → List ℕ
spaced_label set = spaced (rank_words 0 0 (take 13 set) ++ go_words (drop 13 set))

-- the text of the first row
unfoldable pub first_text : Bool → List Bool → List Node → List ℕ
first_text sure flags plan =
    no_card sure (place_row flags plan (plan_start plan)) ++ row_text 0 (place_row flags plan (plan_start plan))

-- the paragraphs from a node on
unfoldable pub paragraphs_text : List Bool → List Node → ℕ → List ℕ
paragraphs_text flags plan from =
    flat_map paragraph_text
    (filter (λ paragraph. apart_in flags paragraph.number) (rows_from (apart_in flags) from (drop from plan)))
