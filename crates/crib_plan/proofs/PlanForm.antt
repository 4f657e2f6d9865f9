-- The form of a plan: what is read is spelled so, and what is spelled so is read. The laws of its spelling follow.
use Rattle.std.proofs.Common.{◌≡◌, ℕ, ◌+◌, ◌*◌, ◌^◌, ◌<◌, ◌≤◌, List, [], ◌∷◌, length, map, codes, decimal, refl, sym, ap, ◌∙◌, arith}
use Rattle.std.specs.List.{list_all, flat_map}
use Rattle.std.proofs.lemmas.List.{length-append}
use Rattle.crib_text.proofs.SpellingLemmas.{is_word, are_words}
use Rattle.crib_text.proofs.RoomLemmas.{ten_digits, five_digits}
use Rattle.crib_text.proofs.TextLengths.{words_length}
use Rattle.crib_text.proofs.Forms.{AreWordsForm, IsForm, AreRows, row_lines, most_form, named_form, header_form, line_form, many_form, then_form}
use Rattle.crib_text.proofs.Forms.{then_given_form, form_as}
use Rattle.crib_plan.specs.declared.plan.Next.{Next}
use Rattle.crib_plan.specs.declared.plan.Next.TheVariants.{End, To}
use Rattle.crib_plan.specs.declared.plan.Node.{Node}
use Rattle.crib_plan.specs.declared.plan.Node.TheVariants.{Play, See}
use Rattle.crib_plan.specs.Nodes.{most_nodes, IsLater, IsNode, AreNodes, ArePlan}
use Rattle.crib_plan.specs.Refusals.{too_many}
use Rattle.crib_plan.specs.Spelling.{next_word, branch_word, nodes_of, node_line, node_lines, plan_lines}
use Rattle.crib_plan.specs.Private.Spelling.{spaced_branch}
use Rattle.crib_plan.specs.Reading.{count_in, count_at, node_from, nodes_at, plan_at}
use Rattle.crib_plan.proofs.WordLemmas.{node_words}
use Rattle.crib_plan.proofs.WrittenIsSpelled.{branches_len}
use Rattle.crib_plan.proofs.ReadIsSpelled.{node_found}
use Rattle.crib_plan.proofs.SpelledIsRead.{node_spelled}

-- what a node with a number is to be in a plan of so many nodes
abbrev IsRow : ℕ → ℕ → Node → Type 0
IsRow count number node = (number < 2 ^ 32) × IsNode number count node

some_words : (number : ℕ) (node : Node) → are_words (node_line number node) ≡ list_all is_word (node_line number node)
some_words number (Play card next) = refl
some_words number (See nexts) = refl

next_short : (number count : ℕ) (next : Next) → count ≤ most_nodes → IsLater number count next → length (next_word next) ≤ 5
next_short number count End few later = omega arith
next_short number count (To node) few later = five_digits node (omega (arith, few, later.1))

branches_length : (all : List Next) (nodes : List ℕ) → words_length (map (branch_word all) nodes) ≡ length (flat_map (spaced_branch all) nodes)
branches_length all [] = refl
branches_length all (node ∷ nodes) =
    omega (arith, branches_length all nodes, length-append (spaced_branch all node) (flat_map (spaced_branch all) nodes))

-- at most ten digits, a keyword, and fourteen branches with a letter each
node_short : (number count : ℕ) (node : Node) → count ≤ most_nodes → IsRow count number node → words_length (node_line number node) ≤ 127
node_short number count (Play card next) few is = omega (arith, ten_digits number is.0, next_short number count next few is.1.1)
node_short number count (See nexts) few is =
    let branches = branches_len number count nexts is.1.1 is.1.0 few in
    omega (arith, ten_digits number is.0, branches_length nexts (nodes_of [] nexts), branches)

node_form : (count : ℕ) → count ≤ most_nodes → (number : ℕ) → AreWordsForm (node_from number count) (node_line number) (IsRow count number) (λ node. 127)
node_form count few number = record {
  found = λ words node e. let line = node_found number count words node e in (line.0, (line.1, line.2));
  spelled = λ node is. node_spelled number count node is.0 few is.1;
  full = λ node is. sym (some_words number node) ∙ node_words number count node is.0 few is.1;
  short = λ node is. node_short number count node few is;
}

count_form : AreWordsForm count_in (λ count. codes "nodes" ∷ decimal count ∷ []) (λ count. count ≤ most_nodes) (λ count. 12)
unfolding count_in
count_form = named_form (codes "nodes") refl (most_form too_many most_nodes 5 (omega arith) (omega arith) (omega arith))

-- the first two lines
pub count_at_form : IsForm count_at (λ count. (codes "plan" ∷ codes "1" ∷ []) ∷ (codes "nodes" ∷ decimal count ∷ []) ∷ [])
    (λ count. Unit {0} × (count ≤ most_nodes)) (λ count. 19)
unfolding count_at
count_at_form =
    then_form _ (λ _. tt) (line_form (header_form (codes "plan") refl) (λ _. refl)) (λ header. line_form count_form (λ _. refl)) (λ header count is few. refl)

nodes_of_rows : (number count : ℕ) (nodes : List Node) → AreRows (IsRow count) number nodes → AreNodes number count nodes
nodes_of_rows number count [] are = tt
nodes_of_rows number count (node ∷ nodes) are = (are.0.1, nodes_of_rows (number + 1) count nodes are.1)

rows_of_nodes : (number count : ℕ) (nodes : List Node) → number + length nodes ≤ most_nodes → AreNodes number count nodes → AreRows (IsRow count) number nodes
rows_of_nodes number count [] few are = tt
rows_of_nodes number count (node ∷ nodes) few are = ((omega arith, are.0), rows_of_nodes (number + 1) count nodes (omega arith) are.1)

same_lines : (number : ℕ) (nodes : List Node) → row_lines node_line number nodes ≡ node_lines number nodes
same_lines number [] = refl
same_lines number (node ∷ nodes) = ap (λ ls. node_line number node ∷ ls) (same_lines (number + 1) nodes)

-- 19 bytes for the first two lines, and at most 127 for the line of each node
pub plan_form : IsForm plan_at plan_lines ArePlan (λ plan. 19 + 127 * length plan)
unfolding plan_at nodes_at plan_lines
plan_form =
    form_as (
    then_given_form _ (λ (plan : List Node). length plan) count_at_form (λ count few. many_form (node_form count few.1) some_words 0 count)
    (λ count plan few are. are.0))
    (λ plan are. (are.0.1, nodes_of_rows 0 (length plan) plan are.1.1))
    (λ plan is. ((tt, is.0), (refl, rows_of_nodes 0 (length plan) plan (omega (arith, is.0)) is.1)))
    (λ plan are. ap (λ ls. (codes "plan" ∷ codes "1" ∷ []) ∷ (codes "nodes" ∷ decimal (length plan) ∷ []) ∷ ls) (same_lines 0 plan))
    (λ plan is. omega arith)
