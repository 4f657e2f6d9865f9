-- The sheet of a plan is valid.
use Rattle.std.proofs.Common.{◌≡◌, ℕ, ◌+◌, ◌≤◌, Bool, true, eqb, ◌||◌, List, [], ◌∷◌, length, map, take, refl, ap, ◌∙◌, arith}
use Rattle.std.specs.List.{list_any, AllByRecursion}
use Rattle.std.proofs.lemmas.Bool.{cond_both, eq-eqb, or_right}
use Rattle.std.proofs.lemmas.List.{length-map}
use Rattle.crib_plan.specs.declared.plan.Next.{Next}
use Rattle.crib_plan.specs.declared.plan.Next.TheVariants.{End, To}
use Rattle.crib_plan.specs.declared.plan.Node.{Node}
use Rattle.crib_plan.specs.declared.plan.Node.TheVariants.{Play, See}
use Rattle.crib_plan.specs.Nodes.{IsLater, IsNode, AreNodes, most_nodes}
use Rattle.crib_plan.specs.Spelling.{leads_to}
use Rattle.crib_plan.specs.Places.{plan_start}
use Rattle.crib_cards.proofs.AllEntries.{all_filter}
use Rattle.crib_plan_sheet.specs.PlanSheet.{Paragraph, row_named, row_to, lines_to, row_of, rows_from, sheet_with}
use Rattle.crib_plan_sheet.specs.PlanTextLaws.{IsRow, AreLines, IsParagraph, PlansHaveSheets}

named_row : (paragraphs : List Paragraph) (number : ℕ) → AllByRecursion IsParagraph paragraphs → IsRow (row_named paragraphs number)
named_row [] number are = tt
named_row (paragraph ∷ paragraphs) number are =
    cond_both (eqb paragraph.number number) _ _ IsRow (λ e. are.0.1) (λ e. named_row paragraphs number are.1)

row_there : (apart : ℕ → Bool) (later : List Paragraph) (number count : ℕ) (next : Next) → count ≤ most_nodes → AllByRecursion IsParagraph later →
    IsLater number count next → IsRow (row_to apart later next)
row_there apart later number count End few are is = tt
row_there apart later number count (To node) few are is =
    let below = is.1 in cond_both (apart node) _ _ IsRow (λ e. omega (arith, few, below)) (λ e. named_row later node are)

any_map : (test : Next → Bool) (nexts : List Next) → list_any (λ flag. flag) (map test nexts) ≡ list_any test nexts
any_map test [] = refl
any_map test (next ∷ nexts) = ap (λ b. test next || b) (any_map test nexts)

-- what leads to a node among the branches that are still ahead leads to it among all
abbrev AreAmong : List Next → List Next → Type 0
AreAmong all branches = (node : ℕ) → list_any (leads_to node) branches ≡ true → list_any (leads_to node) all ≡ true

among_rest : (all : List Next) (branch : Next) (branches : List Next) → AreAmong all (branch ∷ branches) → AreAmong all branches
among_rest all branch branches among node some = among node (or_right (leads_to node branch) (list_any (leads_to node) branches) some)

lines_there : (apart : ℕ → Bool) (later : List Paragraph) (number count : ℕ) (all : List Next) (from : ℕ) (branches : List Next) →
    count ≤ most_nodes → AllByRecursion IsParagraph later → length all ≡ 14 → AreAmong all branches → AllByRecursion (IsLater number count) branches →
    AreLines (lines_to apart later all from branches)
lines_there apart later number count all from [] few are long among each = tt
lines_there apart later number count all from (End ∷ branches) few are long among each =
    lines_there apart later number count all (from + 1) branches few are long (among_rest all End branches among) each.1
lines_there apart later number count all from (To node ∷ branches) few are long among each =
    let others = lines_there apart later number count all (from + 1) branches few are long (among_rest all (To node) branches among) each.1 in
    let here : leads_to node (To node) ≡ true = eq-eqb node node refl in
    let some : list_any (leads_to node) all ≡ true = among node (ap (λ b. b || list_any (leads_to node) branches) here) in
    cond_both (list_any (leads_to node) (take from all)) _ _ AreLines (λ e. others)
    (λ e. (length-map all (leads_to node) ∙ long, any_map (leads_to node) all ∙ some, row_there apart later number count (To node) few are each.0, others))

row_is : (apart : ℕ → Bool) (later : List Paragraph) (number count : ℕ) (node : Node) → count ≤ most_nodes → AllByRecursion IsParagraph later →
    IsNode number count node → IsRow (row_of apart later node)
row_is apart later number count (Play card next) few are is = (is.0, row_there apart later number count next few are is.1)
row_is apart later number count (See branches) few are is =
    lines_there apart later number count branches 0 branches few are is.0 (λ node some. some) is.1

rows_are : (apart : ℕ → Bool) (number count : ℕ) (nodes : List Node) → count ≤ most_nodes → number + length nodes ≤ count → AreNodes number count nodes →
    AllByRecursion IsParagraph (rows_from apart number nodes)
rows_are apart number count [] few fit are = tt
rows_are apart number count (node ∷ nodes) few fit are =
    let later = rows_are apart (number + 1) count nodes few (omega arith) are.1 in
    ((omega arith, row_is apart (rows_from apart (number + 1) nodes) number count node few later are.0), later)

first_is : (apart : ℕ → Bool) (plan : List Node) (rows : List Paragraph) → length plan ≤ most_nodes → AllByRecursion IsParagraph rows →
    IsRow (row_to apart rows (plan_start plan))
first_is apart [] rows few are = tt
first_is apart (node ∷ nodes) rows few are = cond_both (apart 0) _ _ IsRow (λ e. omega arith) (λ e. named_row rows 0 are)

pub plans_have_sheets : PlansHaveSheets
unfolding sheet_with
plans_have_sheets apart plan is =
    let rows = rows_are apart 0 (length plan) plan is.0 (omega arith) is.1 in
    (first_is apart plan (rows_from apart 0 plan) is.0 rows, all_filter IsParagraph (λ paragraph. apart paragraph.number) (rows_from apart 0 plan) rows)
