-- The rows of a plan's sheet, from place to place.
use Rattle.std.proofs.Common.{◌≡◌, ℕ, ◌+◌, ◌-◌, ◌<◌, ◌∙◌, Bool, true, false, List, [], ◌∷◌, ◌++◌, Some, length}
use Rattle.std.proofs.Common.{drop, get_or, refl, ap, sym, append_assoc}
use Rattle.std.specs.List.{AllByRecursion}
use Rattle.std.proofs.lemmas.List.{drop_more}
use Rattle.std.proofs.lemmas.Option.{slice_get-get_or}
use Rattle.crib_plan.specs.declared.plan.Next.{Next}
use Rattle.crib_plan.specs.declared.plan.Next.TheVariants.{End, To}
use Rattle.crib_plan.specs.declared.plan.Node.{Node}
use Rattle.crib_plan.specs.declared.plan.Node.TheVariants.{Play, See}
use Rattle.crib_plan.specs.Nodes.{IsLater, IsNode, ArePlan}
use Rattle.crib_plan_sheet.specs.PlanSheet.{Row, Over, Plays, Looks, Named, row_to, lines_to, rows_from}
use Rattle.crib_plan_sheet.specs.PlanSheet.{sheet_with}
use Rattle.crib_plan_sheet.specs.PlanOutline.{apart_in}
use Rattle.crib_plan_sheet.specs.PlanText.{sheet_text, paragraph_text}
use Rattle.crib_plan_sheet.specs.PlanPage.{legend_text, page_text}
use Rattle.crib_plan_sheet.specs.Private.Pages.{node_row, place_row, lines_at, first_text, paragraphs_text}
use Rattle.crib_plan_sheet.proofs.PlanSheets.{behind, later_is, node_is, row_is}

-- ---- places

pub place_end : (flags : List Bool) (plan : List Node) → place_row flags plan End ≡ Over
unfolding place_row
place_end flags plan = refl

pub place_apart : (flags : List Bool) (plan : List Node) (node : ℕ) → apart_in flags node ≡ true → place_row flags plan (To node) ≡ Named node
unfolding place_row
place_apart flags plan node is = rw is refl

pub place_node : (flags : List Bool) (plan : List Node) (node : ℕ) → apart_in flags node ≡ false →
    place_row flags plan (To node) ≡ node_row flags plan node
unfolding place_row node_row
place_node flags plan node is = rw is refl

-- ---- nodes

row_agrees : (apart : ℕ → Bool) (plan : List Node) (number count : ℕ) (next : Next) → IsLater number count next →
    row_to apart (behind apart plan number) next ≡ row_to apart (rows_from apart 0 plan) next
row_agrees apart plan number count End is = refl
row_agrees apart plan number count (To node) is = rw (later_is apart plan number node is.0) refl

lines_agree : (apart : ℕ → Bool) (plan : List Node) (number count : ℕ) (all : List Next) (from : ℕ) (branches : List Next) →
    AllByRecursion (IsLater number count) branches →
    lines_to apart (behind apart plan number) all from branches ≡ lines_to apart (rows_from apart 0 plan) all from branches
lines_agree apart plan number count all from [] are = refl
lines_agree apart plan number count all from (End ∷ branches) are = lines_agree apart plan number count all (from + 1) branches are.1
lines_agree apart plan number count all from (To node ∷ branches) are =
    rw (lines_agree apart plan number count all (from + 1) branches are.1, later_is apart plan number node are.0.0) refl

pub node_at : (plan : List Node) (i : ℕ) (d node : Node) → ArePlan plan → i < length plan → get_or plan i d ≡ node → IsNode i (length plan) node
node_at plan i d node are inside is = node_is plan i node are.1 (slice_get-get_or plan i d inside ∙ ap Some is)

pub node_play : (flags : List Bool) (plan : List Node) (i card : ℕ) (next : Next) (d : Node) → ArePlan plan → i < length plan →
    get_or plan i d ≡ Play card next → node_row flags plan i ≡ Plays card (place_row flags plan next)
unfolding node_row place_row
node_play flags plan i card next d are inside is =
    row_is (apart_in flags) plan i (Play card next) (slice_get-get_or plan i d inside ∙ ap Some is)
    ∙ ap (Plays card) (row_agrees (apart_in flags) plan i (length plan) next (node_at plan i d (Play card next) are inside is).1)

pub node_see : (flags : List Bool) (plan : List Node) (i : ℕ) (branches : List Next) (d : Node) → ArePlan plan → i < length plan →
    get_or plan i d ≡ See branches → node_row flags plan i ≡ Looks (lines_at flags plan branches 0)
unfolding node_row lines_at
node_see flags plan i branches d are inside is =
    row_is (apart_in flags) plan i (See branches) (slice_get-get_or plan i d inside ∙ ap Some is)
    ∙ ap Looks (lines_agree (apart_in flags) plan i (length plan) branches 0 branches (node_at plan i d (See branches) are inside is).1)

-- ---- paragraphs

paragraphs_at : (flags : List Bool) (plan : List Node) (i : ℕ) (d : Node) → i < length plan →
    rows_from (apart_in flags) i (drop i plan)
    ≡ record { number = i; row = node_row flags plan i } ∷ rows_from (apart_in flags) (i + 1) (drop (i + 1) plan)
unfolding node_row
paragraphs_at flags plan i d inside =
    let node = get_or plan i d in
    ap (rows_from (apart_in flags) i) (drop_more plan i d inside)
    ∙ ap (λ (r : Row). record { number = i; row = r } ∷ rows_from (apart_in flags) (i + 1) (drop (i + 1) plan))
    (sym (row_is (apart_in flags) plan i node (slice_get-get_or plan i d inside)))

pub paragraph_more : (flags : List Bool) (plan : List Node) (i : ℕ) → i < length plan → apart_in flags i ≡ true →
    paragraphs_text flags plan i ≡ paragraph_text (record { number = i; row = node_row flags plan i }) ++ paragraphs_text flags plan (i + 1)
unfolding paragraphs_text
paragraph_more flags plan i inside is = rw (paragraphs_at flags plan i (Play 0 End) inside, is) refl

pub paragraph_none : (flags : List Bool) (plan : List Node) (i : ℕ) → i < length plan → apart_in flags i ≡ false →
    paragraphs_text flags plan i ≡ paragraphs_text flags plan (i + 1)
unfolding paragraphs_text
paragraph_none flags plan i inside is = rw (paragraphs_at flags plan i (Play 0 End) inside, is) refl

-- ---- the page

pub page_is : (sure : Bool) (flags : List Bool) (plan : List Node) →
    page_text sure (sheet_with (apart_in flags) plan) ≡ first_text sure flags plan ++ (paragraphs_text flags plan 0 ++ legend_text sure)
unfolding page_text sheet_with sheet_text first_text paragraphs_text place_row
page_is sure flags plan = simp append_assoc

pub ruleset rows = (place_end, place_apart, place_node)

-- the number of nodes from a place on
abbrev pub room : ℕ → Next → ℕ
room count End = 0
room count (To node) = count - node
