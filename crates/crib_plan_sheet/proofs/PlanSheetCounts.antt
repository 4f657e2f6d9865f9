-- A sheet has few lines: at most one for each branch of its plan, if each of its nodes is in one place.
use Rattle.std.proofs.Common.{◌≡◌, ℕ, zero, suc, ◌+◌, ◌*◌, ◌<◌, ◌≤◌, Bool, true, eqb, ◌||◌, List, [], ◌∷◌, ◌++◌, length, map, filter}
use Rattle.std.proofs.Common.{take, drop, flat_map, refl, sym, ap, ◌∙◌, arith}
use Rattle.std.specs.List.{list_any, sum_by}
use Rattle.std.proofs.lemmas.Bool.Decides.{nat_tests}
use Rattle.std.proofs.lemmas.Bool.{ne_eqb}
use Rattle.std.proofs.Math.Nat.{mul_comm, mul-le-mul_left}
use Rattle.std.proofs.Math.Bool.{or_comm, or-false}
use Rattle.std.proofs.lemmas.List.Sums.{sum_by-cons, length-filter, count_by-le-length}
use Rattle.crib_cards.specs.Sets.{has}
use Rattle.crib_plan.specs.declared.plan.Next.{Next}
use Rattle.crib_plan.specs.declared.plan.Next.TheVariants.{End, To}
use Rattle.crib_plan.specs.declared.plan.Node.{Node}
use Rattle.crib_plan.specs.declared.plan.Node.TheVariants.{Play, See}
use Rattle.crib_plan.specs.Spelling.{leads_to, nodes_of}
use Rattle.crib_plan_sheet.specs.PlanSheet.{Paragraph, Over, row_named, row_to, lines_to, row_of, with_row, rows_from, sheet_with}
use Rattle.crib_plan_sheet.specs.PlanSheetSize.{line_count, lines_count, sheet_lines}
use Rattle.crib_plan_sheet.specs.PlanBranches.{branch_count, plan_branches}
use Rattle.crib_plan_sheet.proofs.PlanTargets.{total, total-append, times, times-append, split, any_next, rest_of, targets, seen}

-- ---- rows

-- no row has a number below the first
not_there : (apart : ℕ → Bool) (from number : ℕ) (nodes : List Node) → number < from → row_named (rows_from apart from nodes) number ≡ Over
not_there apart from number [] low = refl
not_there apart from number (node ∷ nodes) low = grind (arith, nat_tests, not_there apart (from + 1) number nodes)

-- a count that is at most 1 where it matters
bounded : (count value : ℕ) → (0 < value → count ≤ 1) → count * value ≤ value
bounded count zero once = omega arith
bounded count (suc less) once = omega (arith, mul-le-mul_left (suc less) (once (omega arith)), mul_comm count (suc less))

module _ (apart : ℕ → Bool) where
  -- the lines of the row of a node where it is led to
  abbrev pub there : List Paragraph → ℕ → ℕ
  there later number = line_count (row_to apart later (To number))

  -- the lines of the rows that have paragraphs of their own
  abbrev kept_lines : List Paragraph → ℕ
  kept_lines rows = sum_by line_count (map (λ paragraph. paragraph.row) (filter (λ paragraph. apart paragraph.number) rows))

  lines_value : (later : List Paragraph) (all : List Next) (from : ℕ) (branches : List Next) (before : List ℕ) →
      ((number : ℕ) → has before number ≡ list_any (leads_to number) (take from all)) → drop from all ≡ branches →
      lines_count (lines_to apart later all from branches)
      ≡ length (nodes_of before branches) + total (there later) (nodes_of before branches)
  lines_value later all from [] before same is = omega arith
  lines_value later all from (End ∷ branches) before same is =
      lines_value later all (from + 1) branches before
      (λ number. same number ∙ sym (any_next (leads_to number) all from End branches is ∙ or-false (list_any (leads_to number) (take from all))))
      (rest_of all from End branches is)
  lines_value later all from (To node ∷ branches) before same is =
      let rest : drop (from + 1) all ≡ branches = rest_of all from (To node) branches is in
      let next : (number : ℕ) → list_any (leads_to number) (take (from + 1) all) ≡ (has before number || eqb node number) =
      λ number. any_next (leads_to number) all from (To node) branches is ∙ ap (λ b. b || eqb node number) (sym (same number)) in
      let skipped = λ (e : has before node ≡ true).
      lines_value later all (from + 1) branches before (λ number. seen before node number e ∙ sym (next number)) rest in
      let others = lines_value later all (from + 1) branches (node ∷ before)
      (λ number. or_comm (eqb node number) (has before number) ∙ sym (next number)) rest in
      grind (arith, same node, skipped, others)

  node_value : (later : List Paragraph) (node : Node) → line_count (row_of apart later node) ≡ branch_count node + total (there later) (targets node)
  node_value later (Play card End) = refl
  node_value later (Play card (To number)) = omega arith
  node_value later (See branches) = lines_value later branches 0 branches [] (λ number. refl) refl

  none_there : (later : List Paragraph) (number : ℕ) → row_named later number ≡ Over → there later number ≡ 0
  none_there later number none = grind (arith, none)

  nothing : (numbers : List ℕ) → total (there []) numbers ≡ 0
  nothing [] = refl
  nothing (number ∷ numbers) = omega (arith, none_there [] number refl, nothing numbers)

  -- the first row has its lines where it is, or in a paragraph
  first_lines : (number : ℕ) (node : Node) (later : List Paragraph) →
      kept_lines (with_row apart number node later) + there (with_row apart number node later) number ≡ line_count (row_of apart later node) + kept_lines later
  first_lines number node later =
      grind (arith, nat_tests, sum_by-cons line_count (row_of apart later node) (map (λ (p : Paragraph). p.row) (filter (λ p. apart p.number) later)))

  -- rows have no more lines than their nodes have branches, if each with lines is led to once, from these numbers or
  -- from the nodes
  few_from : (from : ℕ) (nodes : List Node) (numbers : List ℕ) →
      ((number : ℕ) → from ≤ number → 0 < there (rows_from apart from nodes) number →
      times number numbers + times number (flat_map targets nodes) ≤ 1) →
      total (there (rows_from apart from nodes)) numbers + kept_lines (rows_from apart from nodes) ≤ sum_by branch_count nodes
  few_from from [] numbers once = omega (arith, nothing numbers)
  few_from from (node ∷ nodes) numbers once =
      let later : List Paragraph = rows_from apart (from + 1) nodes in
      let rows : List Paragraph = with_row apart from node later in
      let same : (number : ℕ) → (number ≡ from → ⊥) → there rows number ≡ there later number =
      λ number differs. rw (ne_eqb from number (λ e. differs (sym e))) refl in
      let rest = few_from (from + 1) nodes (numbers ++ targets node)
      (λ number above some.
      let here : 0 < there rows number = omega (arith, some, same number (λ e. absurd (omega (arith, above, e)))) in
      omega (arith, once number (omega (arith, above)) here, times-append, times-append number (targets node) (flat_map targets nodes))) in
      let none = none_there later from (not_there apart (from + 1) from nodes (omega arith)) in
      let few = bounded (times from numbers) (there rows from) (λ some. omega (arith, once from (omega arith) some)) in
      let parts = split (there rows) (there later) from numbers none same in
      omega (arith, rest, parts, few, first_lines from node later, node_value later node, total-append, sum_by-cons branch_count node nodes)

  -- a sheet has no more lines than its plan has branches, if each node behind the first whose row has lines is led to once
  pub few_lines : (plan : List Node) →
      ((number : ℕ) → 1 ≤ number → 0 < there (rows_from apart 1 (drop 1 plan)) number → times number (flat_map targets plan) ≤ 1) →
      sheet_lines (sheet_with apart plan) ≤ plan_branches plan
  unfolding sheet_with
  few_lines [] once = omega (arith, sum_by-cons line_count Over [])
  few_lines (node ∷ nodes) once =
      let later : List Paragraph = rows_from apart 1 nodes in
      let rows : List Paragraph = with_row apart 0 node later in
      let few = few_from 1 nodes (targets node) (λ number low some. omega (arith, once number low some, times-append)) in
      let lines = sum_by-cons line_count (row_to apart rows (To 0)) (map (λ (p : Paragraph). p.row) (filter (λ (p : Paragraph). apart p.number) rows)) in
      omega (arith, few, first_lines 0 node later, node_value later node, sum_by-cons branch_count node nodes, lines)

-- ---- paragraphs

length_rows : (apart : ℕ → Bool) (number : ℕ) (nodes : List Node) → length (rows_from apart number nodes) ≡ length nodes
length_rows apart number [] = refl
length_rows apart number (node ∷ nodes) = omega (arith, length_rows apart (number + 1) nodes)

-- a sheet has no more paragraphs than its plan has nodes
pub paragraphs_are_nodes : (apart : ℕ → Bool) (plan : List Node) → length (sheet_with apart plan).paragraphs ≤ length plan
unfolding sheet_with
paragraphs_are_nodes apart plan =
    let rows = rows_from apart 0 plan in
    let kept = λ (paragraph : Paragraph). apart paragraph.number in
    omega (arith, length-filter kept rows, count_by-le-length kept rows, length_rows apart 0 plan)
