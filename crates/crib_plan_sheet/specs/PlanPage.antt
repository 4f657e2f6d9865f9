-- The page of a plan: its sheet, and how to read it.
use Rattle.std.specs.Prelude.{ℕ, Bool, List, [], ◌++◌, ◌&&◌, nat_lt, codes, if◌then◌else◌}
use Rattle.crib_plan.specs.declared.plan.Node.{Node}
use Rattle.crib_plan_sheet.specs.PlanOutline.{is_long}
use Rattle.crib_plan_sheet.specs.PlanSheet.{Row, Sheet, Over, Plays, Looks, Named, sheet_with}
use Rattle.crib_plan_sheet.specs.PlanSheetSize.{level_count}
use Rattle.crib_plan_sheet.specs.PlanText.{sheet_text}

-- what is printed for a first row without a card or a look. Only a sure plan needs no card there
abbrev pub no_card : Bool → Row → List ℕ
no_card sure Over = if sure then codes "No card is needed." else codes "The plan states no card."
no_card sure (Plays card row) = []
no_card sure (Looks lines) = []
no_card sure (Named number) = []

-- what the end of a row means. Only a sure plan leaves nothing to decide there, and states no card that can't be played
abbrev pub end_of_row : Bool → List ℕ
end_of_row sure =
    if sure
    then
    codes "At the end of a row, or if there is no line, nothing is left to decide, or\nyour goal is reached: then "
    ++ codes "play as you like.\n"
    else
    codes "At the end of a row, if there is no line, or if the next card isn't in your\nhand or doesn't fit while "
    ++ codes "another does, the plan states nothing more, nor at a\n\"look\" if a card of yours fits. Then play "
    ++ codes "what you think best: you may still\nreach your goal.\n"

-- how to read a sheet
unfoldable pub legend_text : Bool → List ℕ
legend_text sure =
    codes "\n"
    ++ codes "Play a row in order, one card at each of your turns. If none of your cards\n"
    ++ codes "fits, say go and stay there. At \"look\", go on in the line of what they show\n"
    ++ codes "next: a rank (8-T is 8, 9 or ten), or a go, even after yours: their first in a\n"
    ++ codes "count, with a card left. At \"see [n]\", go on in paragraph [n].\n" ++ end_of_row sure

-- the page of a sheet
unfoldable pub page_text : Bool → Sheet → List ℕ
page_text sure sheet = no_card sure sheet.first ++ sheet_text sheet ++ legend_text sure

-- whether the sheet of a long plan begins with lines: its first row has some below it
abbrev pub begins_long : (ℕ → Bool) → List Node → Bool
begins_long apart plan = is_long plan && nat_lt 0 (level_count (sheet_with apart plan).first)

-- what is printed before such a sheet
abbrev pub long_text : Bool → List ℕ
long_text long =
    if long
    then codes "This plan is long. Its sheet begins with the lines for what they show first.\n\n"
    else []

-- the page of a plan, by the nodes that have paragraphs of their own
unfoldable pub plan_page : Bool → (ℕ → Bool) → List Node → List ℕ
plan_page sure apart plan = long_text (begins_long apart plan) ++ page_text sure (sheet_with apart plan)
