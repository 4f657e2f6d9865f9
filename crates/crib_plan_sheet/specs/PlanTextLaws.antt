-- The laws of the text of a sheet: it is the text of this sheet alone.
use Rattle.std.specs.Prelude.{◌≡◌, ℕ, ◌<◌, Bool, true, List, length}
use Rattle.std.specs.List.{list_any, AllByRecursion}
use Rattle.crib_cards.specs.Cards.{IsCard}
use Rattle.crib_plan.specs.declared.plan.Node.{Node}
use Rattle.crib_plan.specs.Nodes.{ArePlan, most_nodes}
use Rattle.crib_plan.specs.Places.{plan_start, stated_card}
use Rattle.crib_plan_sheet.specs.PlanSheet.{Row, Lines, Paragraph, Sheet, Turn, sheet_with, Over, Plays, Looks, Named}
use Rattle.crib_plan_sheet.specs.PlanSheet.{NoLine, Line}
use Rattle.crib_plan_sheet.specs.PlanSheetLaws.{place_after_turns}
use Rattle.crib_plan_sheet.specs.PlanText.{sheet_text}

-- ---- valid sheets

-- a row is valid: its cards are of the pack, the number of a paragraph is that of a node, and its lines are valid
abbrev mutual
  pub IsRow : Row → Type 0
  IsRow Over = Unit {0}
  IsRow (Plays card row) = IsCard card × IsRow row
  IsRow (Looks lines) = AreLines lines
  IsRow (Named number) = number < most_nodes

  -- lines are valid: each is for one or more of the fourteen letters, and its row is valid
  pub AreLines : Lines → Type 0
  AreLines NoLine = Unit {0}
  AreLines (Line set row others) =
      (length set ≡ 14) × (list_any (λ flag. flag) set ≡ true) × IsRow row × AreLines others

-- a paragraph is valid: its number is that of a node, and its row is valid
abbrev pub IsParagraph : Paragraph → Type 0
IsParagraph paragraph = (paragraph.number < most_nodes) × IsRow paragraph.row

-- a sheet is valid: its rows and paragraphs are
abbrev pub IsSheet : Sheet → Type 0
IsSheet sheet = IsRow sheet.first × AllByRecursion IsParagraph sheet.paragraphs

-- the sheet of a plan is valid, whichever nodes have paragraphs of their own
abbrev pub PlansHaveSheets : Type 0
PlansHaveSheets = (apart : ℕ → Bool) (plan : List Node) → ArePlan plan → IsSheet (sheet_with apart plan)

-- ---- one sheet

-- two valid sheets with the same text are the same
abbrev pub TextsHaveOneSheet : Type 0
TextsHaveOneSheet =
    (sheet other : Sheet) → IsSheet sheet → IsSheet other → sheet_text sheet ≡ sheet_text other → sheet ≡ other

-- two plans whose sheets have the same text have the same sheet
abbrev pub PlansOfOneText : Type 0
PlansOfOneText =
    (apart apart' : ℕ → Bool) (plan plan' : List Node) → ArePlan plan → ArePlan plan' →
    sheet_text (sheet_with apart plan) ≡ sheet_text (sheet_with apart' plan') →
    sheet_with apart plan ≡ sheet_with apart' plan'

-- two plans whose sheets have the same text state the same card after every list of turns, or none
abbrev pub OneTextStatesTheSame : Type 0
OneTextStatesTheSame =
    (apart apart' : ℕ → Bool) (plan plan' : List Node) (turns : List Turn) → ArePlan plan → ArePlan plan' →
    sheet_text (sheet_with apart plan) ≡ sheet_text (sheet_with apart' plan') →
    stated_card plan (place_after_turns plan (plan_start plan) turns)
    ≡ stated_card plan' (place_after_turns plan' (plan_start plan') turns)
