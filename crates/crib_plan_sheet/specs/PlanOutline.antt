-- Which nodes of a plan have paragraphs of their own.
use Rattle.std.specs.Prelude.{◌≡◌, ℕ, ◌+◌, ◌<◌, ◌≤◌, ◌⊎◌, Bool, true, false, List, map, slice_get, unwrap_or}
use Rattle.std.specs.Prelude.{nat_lt, replicate, Option, Some, None, if◌then◌else◌}
use Rattle.std.specs.List.{count_by, list_any}
use Rattle.crib_plan.specs.declared.plan.Next.{Next}
use Rattle.crib_plan.specs.declared.plan.Next.TheVariants.{End}
use Rattle.crib_plan.specs.declared.plan.Node.{Node}
use Rattle.crib_plan.specs.declared.plan.Node.TheVariants.{Play, See}
use Rattle.crib_plan.specs.Places.{node_at, place_after_card, plan_start}
use Rattle.crib_plan.specs.Spelling.{leads_to}
use Rattle.crib_plan_sheet.specs.PlanBranches.{node_leads}
use Rattle.crib_plan_sheet.specs.PlanSheet.{Row, Over, Plays, Looks, Named, row_named, rows_from, sheet_with}
use Rattle.crib_plan_sheet.specs.PlanSheetSize.{level_count}

-- whether a node has a paragraph of its own, by an outline, which says it for each node
abbrev pub apart_in : List Bool → ℕ → Bool
apart_in flags node = unwrap_or (slice_get flags node) false

-- the cards with which a row begins
abbrev pub first_cards : Row → ℕ
first_cards Over = 0
first_cards (Plays card row) = 1 + first_cards row
first_cards (Looks lines) = 0
first_cards (Named number) = 0

-- a row is too large to are where it is led to: it begins with more than four cards, it has more than four levels of
-- lines, or it has lines and is led to twice
abbrev pub IsTooLarge : ℕ → ℕ → ℕ → Type 0
IsTooLarge cards levels ways = (4 < cards) ⊎ (4 < levels) ⊎ ((0 < levels) × (1 < ways))

-- the row of a node, as it is in a paragraph
abbrev pub row_at : (ℕ → Bool) → List Node → ℕ → Row
row_at apart plan node = row_named (rows_from apart 0 plan) node

-- ---- long plans

-- the place behind at most four cards of a row
abbrev pub behind_cards : List Node → Next → Next
behind_cards plan place =
    place_after_card plan (place_after_card plan (place_after_card plan (place_after_card plan place)))

-- where the branches of a look lead. Anything else leads to the end
abbrev pub branches_at : Option Node → List Next
branches_at None = replicate 14 End
branches_at (Some (Play card next)) = replicate 14 End
branches_at (Some (See branches)) = branches

-- the place of the first look, behind at most five cards
abbrev pub first_look : List Node → Next
first_look plan = place_after_card plan (behind_cards plan (plan_start plan))

-- the places of the second looks: those behind the cards in the lines of the first look
abbrev pub second_looks : List Node → List Next
second_looks plan = map (behind_cards plan) (branches_at (node_at plan (first_look plan)))

-- whether a node is a look
abbrev pub is_look : Node → Bool
is_look (Play card next) = false
is_look (See branches) = true

-- a plan is long if it has more than 20 looks. Its sheet has more than 120 lines, as a rule
abbrev pub is_long : List Node → Bool
is_long plan = nat_lt 20 (count_by is_look plan)

-- the second looks of a long plan. They get paragraphs of their own
abbrev pub looks_to_name : List Node → List Next
looks_to_name plan = if is_long plan then second_looks plan else replicate 14 End

-- whether a node is one of some places
abbrev pub is_among : List Next → ℕ → Bool
is_among places node = list_any (leads_to node) places

-- the lines of the first look of a long plan have no lines below them. So the sheet begins with the lines for what is
-- shown first
abbrev pub BeginsWithFirst : (ℕ → Bool) → List Node → Type 0
BeginsWithFirst apart plan = is_long plan ≡ true → level_count (sheet_with apart plan).first ≤ 1

-- ---- which nodes

-- only nodes whose rows are too large have paragraphs of their own, and of a long plan the second looks, but never the
-- first node
abbrev pub OnlyLargeAreApart : (ℕ → Bool) → List Node → Type 0
OnlyLargeAreApart apart plan =
    (node : ℕ) → apart node ≡ true →
    (0 < node)
    × (IsTooLarge (first_cards (row_at apart plan node)) (level_count (row_at apart plan node))
    (count_by (node_leads node) plan)
    ⊎ (is_among (looks_to_name plan) node ≡ true))
