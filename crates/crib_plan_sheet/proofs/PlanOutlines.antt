-- The sheet of an outline repeats no look, and so it has few lines and a short text.
use Rattle.std.proofs.Common.{◌≡◌, ℕ, ◌+◌, ◌*◌, ◌<◌, ◌≤◌, Bool, List, length, map, flat_map, drop, get_or}
use Rattle.std.proofs.Common.{refl, subst, arith}
use Rattle.std.proofs.lemmas.Bool.{cond_both}
use Rattle.std.proofs.lemmas.Bool.Decides.{nat_tests}
use Rattle.std.proofs.lemmas.Option.{slice_get_past, slice_get-get_or}
use Rattle.crib_plan.specs.declared.plan.Next.{Next}
use Rattle.crib_plan.specs.declared.plan.Next.TheVariants.{End, To}
use Rattle.crib_plan.specs.declared.plan.Node.{Node}
use Rattle.crib_plan.specs.declared.plan.Node.TheVariants.{Play}
use Rattle.crib_plan.specs.Nodes.{ArePlan}
use Rattle.crib_plan_sheet.specs.PlanBranches.{plan_branches}
use Rattle.crib_plan_sheet.specs.PlanOutline.{apart_in, is_among}
use Rattle.crib_plan_sheet.specs.PlanSheet.{Row, Over, Plays, Looks, Named, row_to, rows_from, sheet_with}
use Rattle.crib_plan_sheet.specs.PlanSheetSize.{level_count, line_count, longest_line, sheet_lines}
use Rattle.crib_plan_sheet.specs.PlanText.{sheet_text}
use Rattle.crib_plan_sheet.specs.Private.Spots.{AreLow, AreSized}
use Rattle.crib_plan_sheet.specs.Private.Ways.{ways_or_named, ways_to}
use Rattle.crib_plan_sheet.specs.declared.spots.Spot.{Spot}
use Rattle.crib_plan_sheet.proofs.PlanFits.{rows_behind, to_fits, apart_same, outline_fits}
use Rattle.crib_plan_sheet.proofs.PlanSheetCounts.{there, few_lines, paragraphs_are_nodes}
use Rattle.crib_plan_sheet.proofs.PlanSheetRows.{plans_have_sheets}
use Rattle.crib_plan_sheet.proofs.PlanTextSizes.{small_text}
use Rattle.crib_plan_sheet.proofs.PlanTargets.{times, targets, plan_times}

-- ---- rows without lines

no_lines : (row : Row) → level_count row ≤ 0 → line_count row ≡ 0
no_lines Over flat = refl
no_lines (Plays card row) flat = no_lines row flat
no_lines (Looks lines) flat = absurd (omega arith)
no_lines (Named number) flat = refl

led_twice : (named : List Next) (node ways : ℕ) → 1 < ways → 1 < ways_or_named named node ways
led_twice named node ways twice = cond_both (is_among named node) 2 ways (λ n. 1 < n) (λ e. omega arith) (λ e. twice)

-- each node whose row has lines is led to once where it is
led_once : (named : List Next) (spots : List Spot) (plan : List Node) → length spots ≡ length plan → AreLow spots → AreSized named 1 plan spots →
    (number : ℕ) → 1 ≤ number →
    0 < there (apart_in (map (λ spot. spot.is_apart) spots)) (rows_from (apart_in (map (λ spot. spot.is_apart) spots)) 1 (drop 1 plan)) number →
    times number (flat_map targets plan) ≤ 1
led_once named spots plan long low sized number above some =
    let apart : ℕ → Bool = apart_in (map (λ (s : Spot). s.is_apart) spots) in
    let later = rows_from apart 1 (drop 1 plan) in
    let row : Row = row_to apart later (To number) in
    let depth = (to_fits apart spots low later (To number) (rows_behind named spots plan long low sized)).depth in
    let node = get_or plan number (Play 0 End) in
    let whole = sized.whole number node above in
    let there = slice_get-get_or plan number (Play 0 End) in
    let once = led_twice named number (ways_to plan number) in
    grind (arith, nat_tests, depth, no_lines row, whole, there, once, apart_same spots number, slice_get_past spots number, plan_times number plan)

pub outline_lines : (named : List Next) (spots : List Spot) (plan : List Node) → length spots ≡ length plan → AreLow spots → AreSized named 1 plan spots →
    sheet_lines (sheet_with (apart_in (map (λ spot. spot.is_apart) spots)) plan) ≤ plan_branches plan
outline_lines named spots plan long low sized =
    few_lines (apart_in (map (λ (s : Spot). s.is_apart) spots)) plan (led_once named spots plan long low sized)

-- the text of the sheet of an outline
pub outline_text : (named : List Next) (spots : List Spot) (plan nodes : List Node) → nodes ≡ plan → length spots ≡ length nodes → ArePlan nodes →
    AreLow spots → AreSized named 1 nodes spots →
    (longest_line 0 (sheet_text (sheet_with (apart_in (map (λ spot. spot.is_apart) spots)) plan)) ≤ 78)
    × (length (sheet_text (sheet_with (apart_in (map (λ spot. spot.is_apart) spots)) plan)) ≤ 76 * (plan_branches plan + length plan + 1))
outline_text named spots plan nodes known long are low sized =
    let apart : ℕ → Bool = apart_in (map (λ (s : Spot). s.is_apart) spots) in
    let text = small_text (sheet_with apart nodes) (plans_have_sheets apart nodes are) (outline_fits named spots nodes long low sized) in
    let narrow = text.0 in
    let short = text.1 in
    let all : (longest_line 0 (sheet_text (sheet_with apart nodes)) ≤ 78)
    × (length (sheet_text (sheet_with apart nodes)) ≤ 76 * (plan_branches nodes + length nodes + 1)) =
    (omega (arith, narrow), omega (arith, short, outline_lines named spots nodes long low sized, paragraphs_are_nodes apart nodes)) in
    subst (λ p. (longest_line 0 (sheet_text (sheet_with apart p)) ≤ 78) × (length (sheet_text (sheet_with apart p)) ≤ 76 * (plan_branches p + length p + 1)))
    known all
