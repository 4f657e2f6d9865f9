-- The text that the code writes is the spelling, and no line is longer than the room that was made.
use Rattle.std.proofs.Common.{◌≡◌, ℕ, zero, suc, ◌+◌, ◌*◌, ◌<◌, ◌≤◌, Bool, true, false, cond, List, [], ◌∷◌, ◌++◌, length, map, get_or, take, drop}
use Rattle.std.proofs.Common.{Option, Some, None, option_map, unwrap_or, codes, decimal, refl, sym, ap, subst, ◌∙◌, append_assoc, arith}
use Rattle.std.proofs.lemmas.Grind.{flat_map-append}
use Rattle.std.specs.List.{flat_map, count_by, sum_by, AllByRecursion}
use Rattle.std.proofs.lemmas.Bool.Decides.{nat_tests}
use Rattle.std.proofs.lemmas.List.{append-nil, length-append, take_more, drop_more}
use Rattle.std.proofs.lemmas.List.Sums.{sum_by-cons, count_by-le-length}
use Rattle.crib_cards.specs.Sets.{has, are_distinct}
use Rattle.crib_cards.proofs.Members.{has_here, has_there, distinct_parts}
use Rattle.crib_text.specs.Spelling.{space, line_bytes, line_text, lines_text}
use Rattle.crib_text.proofs.RoomLemmas.{five_digits}
use Rattle.crib_plan.specs.declared.plan.Next.{Next}
use Rattle.crib_plan.specs.declared.plan.Next.TheVariants.{End, To}
use Rattle.crib_plan.specs.declared.plan.Node.{Node}
use Rattle.crib_plan.specs.declared.plan.Node.TheVariants.{Play, See}
use Rattle.crib_plan.specs.Nodes.{most_nodes, IsLater, IsNode, AreNodes, ArePlan}
use Rattle.crib_plan.specs.Spelling.{letter_bytes, colon, leads_to, new_node, letters_to, branch_word, nodes_of, node_line}
use Rattle.crib_plan.specs.Private.Spelling.{seen_after, spaced_branch, branches_text, longest_line}
use Rattle.crib_plan.specs.Spelling.{node_lines, plan_text}
use Rattle.crib_plan.proofs.LeadsTo.{leads_in, nodes_of-append, seen_after-append, has-seen_after, has-nodes_of, has_nodes}
use Rattle.crib_plan.proofs.WordLemmas.{later_small}

-- the letters that are still to be written: the next one if it leads to the node, and those behind it
pub letters_next : (node : ℕ) (letters : List ℕ) (nexts : List Next) (i : ℕ) (b : Bool) → get_or (map (leads_to node) nexts) i false ≡ b →
    i < length letters → i < length nexts → letters_to node (drop i letters) (drop i nexts)
    ≡ cond b (get_or letters i 0 ∷ []) [] ++ letters_to node (drop (i + 1) letters) (drop (i + 1) nexts)
letters_next node (letter ∷ letters) (next ∷ nexts) zero b is inside inside2 = grind (arith, is)
letters_next node (letter ∷ letters) (next ∷ nexts) (suc i) b is inside inside2 =
    let k : suc i + 1 ≡ suc (i + 1) = omega arith in
    rw k (letters_next node letters nexts i b is (omega arith) (omega arith))
letters_next node letters nexts i b is inside inside2 = absurd (omega arith)

-- the branches that are still to be written: that of the next letter, unless an earlier one has its node, and those behind it
branches_next : (nexts : List Next) (i : ℕ) → i < length nexts → branches_text nexts i
    ≡ flat_map (spaced_branch nexts) (nodes_of (seen_after [] (take i nexts)) (get_or nexts i End ∷ [])) ++ branches_text nexts (i + 1)
branches_next nexts i inside =
    let before : List ℕ = seen_after [] (take i nexts) in
    let here : List Next = get_or nexts i End ∷ [] in
    let after : seen_after before here ≡ seen_after [] (take (i + 1) nexts) =
    sym (ap (seen_after []) (take_more nexts i End inside) ∙ seen_after-append [] (take i nexts) here) in
    ap (flat_map (spaced_branch nexts))
    (ap (nodes_of before) (drop_more nexts i End inside) ∙ nodes_of-append before here (drop (i + 1) nexts)
    ∙ ap (λ (ns : List ℕ). nodes_of before here ++ nodes_of ns (drop (i + 1) nexts)) after) ∙ flat_map-append (spaced_branch nexts) _ _

-- the nodes that one branch adds
nodes_new : (before : List Next) (next : Next) →
    nodes_of (seen_after [] before) (next ∷ []) ≡ unwrap_or (option_map (λ node. node ∷ []) (new_node before next)) []
nodes_new before End = refl
nodes_new before (To node) = grind (arith, has-seen_after [] before node)

pub branch_next : (nexts : List Next) (i : ℕ) (found : Option ℕ) → i < length nexts → new_node (take i nexts) (get_or nexts i End) ≡ found →
    branches_text nexts i ≡ unwrap_or (option_map (spaced_branch nexts) found) [] ++ branches_text nexts (i + 1)
branch_next nexts i None inside is = branches_next nexts i inside ∙ rw (nodes_new (take i nexts) (get_or nexts i End), is) refl
branch_next nexts i (Some node) inside is =
    branches_next nexts i inside ∙ rw (nodes_new (take i nexts) (get_or nexts i End), is)
    (ap (λ (piece : List ℕ). piece ++ branches_text nexts (i + 1)) (append-nil (spaced_branch nexts node)))

all_fewer : (number count more : ℕ) → count ≤ more → (nexts : List Next) → AllByRecursion (IsLater number count) nexts →
    AllByRecursion (IsLater number more) nexts
all_fewer number count more fewer [] all = tt
all_fewer number count more fewer (End ∷ nexts) all = (tt, all_fewer number count more fewer nexts all.1)
all_fewer number count more fewer (To node ∷ nexts) all = ((all.0.0, let h = all.0.1 in omega arith), all_fewer number count more fewer nexts all.1)

pub node_fewer : (number count more : ℕ) → count ≤ more → (node : Node) → IsNode number count node → IsNode number more node
node_fewer number count more fewer (Play card End) is = is
node_fewer number count more fewer (Play card (To node)) is = (is.0, (is.1.0, let h = is.1.1 in omega arith))
node_fewer number count more fewer (See nexts) is = (is.0, all_fewer number count more fewer nexts is.1)

node_there : (number count : ℕ) (nodes : List Node) (i : ℕ) (d : Node) → AreNodes number count nodes → i < length nodes →
    IsNode (number + i) count (get_or nodes i d)
node_there number count [] i d are inside = absurd (omega arith)
node_there number count (node ∷ nodes) zero d are inside = let e : number ≡ number + 0 = omega arith in subst (λ (k : ℕ). IsNode k count node) e are.0
node_there number count (node ∷ nodes) (suc i) d are inside =
    let e : number + 1 + i ≡ number + suc i = omega arith in
    subst (λ (k : ℕ). IsNode k count (get_or nodes i d)) e (node_there (number + 1) count nodes i d are.1 (omega arith))

-- the node with a number in a plan
pub plan_node : (nodes : List Node) (i : ℕ) (d : Node) → ArePlan nodes → i < length nodes → IsNode i most_nodes (get_or nodes i d)
plan_node nodes i d plan inside =
    let e : 0 + i ≡ i = omega arith in
    node_fewer i (length nodes) most_nodes plan.0 (get_or nodes i d) (subst (λ (k : ℕ). IsNode k (length nodes) (get_or nodes i d)) e
    (node_there 0 (length nodes) nodes i d plan.1 inside))

-- ---- no line of branches is longer than 112 bytes

total_letters : List ℕ → List ℕ → List Next → ℕ
total_letters [] letters nexts = 0
total_letters (node ∷ nodes) letters nexts = length (letters_to node letters nexts) + total_letters nodes letters nexts

few_letters : (node : ℕ) (letters : List ℕ) (nexts : List Next) → length (letters_to node letters nexts) ≤ count_by (leads_to node) nexts
few_letters node [] nexts = omega arith
few_letters node (letter ∷ letters) [] = omega arith
few_letters node (letter ∷ letters) (next ∷ nexts) =
    let rest = few_letters node letters nexts in
    let more = sum_by-cons (λ (n : Next). cond {A = ℕ} (leads_to node n) 1 0) next nexts in
    grind (arith, rest, more)

one_apart : (node : ℕ) (nodes : List ℕ) (next : Next) → has nodes node ≡ false
    → cond {A = ℕ} (leads_to node next) 1 0 + cond {A = ℕ} (leads_in nodes next) 1 0 ≤ cond {A = ℕ} (leads_in (node ∷ nodes) next) 1 0
one_apart node nodes next new = grind (arith, nat_tests, new)

-- branches that lead to different nodes are different branches
all_apart : (node : ℕ) (nodes : List ℕ) (nexts : List Next) → has nodes node ≡ false
    → count_by (leads_to node) nexts + count_by (leads_in nodes) nexts ≤ count_by (leads_in (node ∷ nodes)) nexts
all_apart node nodes [] new = omega arith
all_apart node nodes (next ∷ nexts) new =
    let to_node = sum_by-cons (λ (n : Next). cond {A = ℕ} (leads_to node n) 1 0) next nexts in
    let to_nodes = sum_by-cons (λ (n : Next). cond {A = ℕ} (leads_in nodes n) 1 0) next nexts in
    let to_all = sum_by-cons (λ (n : Next). cond {A = ℕ} (leads_in (node ∷ nodes) n) 1 0) next nexts in
    omega (arith, one_apart node nodes next new, all_apart node nodes nexts new, to_node, to_nodes, to_all)

total_small : (nodes letters : List ℕ) (nexts : List Next) → are_distinct nodes ≡ true → total_letters nodes letters nexts ≤ count_by (leads_in nodes) nexts
unfolding total_letters
total_small [] letters nexts distinct = omega arith
total_small (node ∷ nodes) letters nexts distinct =
    let parts = distinct_parts node nodes distinct in
    omega (arith, few_letters node letters nexts, all_apart node nodes nexts parts.0, total_small nodes letters nexts parts.1)

distinct_nodes : (before : List ℕ) (nexts : List Next) → are_distinct (nodes_of before nexts) ≡ true
distinct_nodes before [] = refl
distinct_nodes before (End ∷ nexts) = distinct_nodes before nexts
distinct_nodes before (To node ∷ nexts) =
    let none = has-nodes_of (node ∷ before) nexts node in
    grind (arith, nat_tests, none, distinct_nodes before nexts, distinct_nodes (node ∷ before) nexts)

few_nodes : (before : List ℕ) (nexts : List Next) → length (nodes_of before nexts) ≤ length nexts
few_nodes before [] = omega arith
few_nodes before (End ∷ nexts) = omega (arith, few_nodes before nexts)
few_nodes before (To node ∷ nexts) = grind (arith, few_nodes before nexts, few_nodes (node ∷ before) nexts)

pub branch_len : (all : List Next) (node : ℕ) →
    length (spaced_branch all node) ≡ length (letters_to node letter_bytes all) + length (decimal node) + 2
branch_len all node = omega (arith, length-append (letters_to node letter_bytes all) (colon ∷ decimal node))

pub branch_text : (all : List Next) (node : ℕ) (old : List ℕ) →
    (((old ++ codes " ") ++ letters_to node letter_bytes all) ++ codes ":") ++ decimal node ≡ old ++ spaced_branch all node
branch_text all node old = simp append_assoc

-- each branch takes a space, its letters, a colon and a number
words_len : (all : List Next) (nodes : List ℕ) → ((node : ℕ) → has nodes node ≡ true → node < 65536) →
    length (flat_map (spaced_branch all) nodes) ≤ total_letters nodes letter_bytes all + 7 * length nodes
unfolding total_letters
words_len all [] small = omega arith
words_len all (node ∷ nodes) small =
    let rest = words_len all nodes (λ other h. small other (has_there node other nodes h)) in
    let digits = five_digits node (small node (has_here node nodes)) in
    let one = branch_len all node in
    omega (arith, length-append (spaced_branch all node) (flat_map (spaced_branch all) nodes))

pub branches_len : (number count : ℕ) (nexts : List Next) → AllByRecursion (IsLater number count) nexts → length nexts ≡ 14 → count ≤ 65535 →
    length (branches_text nexts 0) ≤ 112
branches_len number count nexts later long few =
    let words = words_len nexts (nodes_of [] nexts) (λ node h. later_small number count few nexts later node (sym (has_nodes nexts node) ∙ h)) in
    let letters = total_small (nodes_of [] nexts) letter_bytes nexts (distinct_nodes [] nexts) in
    omega (arith, words, letters, count_by-le-length (leads_in (nodes_of [] nexts)) nexts, few_nodes [] nexts)

-- the text of a line is the pieces that the code writes
spaced_words : (all : List Next) (word : List ℕ) (nodes : List ℕ) → line_bytes (word ∷ map (branch_word all) nodes) ≡ word ++ flat_map (spaced_branch all) nodes
spaced_words all word [] = sym (append-nil word)
spaced_words all word (node ∷ nodes) = ap (λ (rest : List ℕ). word ++ space ∷ rest) (spaced_words all (branch_word all node) nodes)

pub see_text : (number : ℕ) (nexts : List Next) (old : List ℕ) →
    (((old ++ decimal number) ++ codes " see") ++ flat_map (spaced_branch nexts) (nodes_of [] nexts)) ++ codes "\n" ≡ old
    ++ line_text (node_line number (See nexts))
see_text number nexts old =
    let words = spaced_words nexts (codes "see") (nodes_of [] nexts) in
    rw words (simp append_assoc)

-- the lines that are still to be written, from a node on
lines_next : (nodes : List Node) (i : ℕ) (d : Node) → i < length nodes → lines_text (node_lines i (drop i nodes)) ≡ line_text
    (node_line i (get_or nodes i d)) ++ lines_text (node_lines (i + 1) (drop (i + 1) nodes))
lines_next nodes i d inside = ap (λ (ns : List Node). lines_text (node_lines i ns)) (drop_more nodes i d inside)

-- one more line is written
pub line_written : (plan nodes : List Node) (i : ℕ) (node : Node) (old new : List ℕ) → nodes ≡ plan → i < length nodes → node ≡ get_or nodes i node →
    new ≡ old ++ line_text (node_line i node) → old ++ lines_text (node_lines i (drop i plan)) ≡ plan_text plan →
    new ++ lines_text (node_lines (i + 1) (drop (i + 1) plan)) ≡ plan_text plan
line_written plan nodes i node old new same inside is writes so_far =
    let rest : List ℕ = lines_text (node_lines (i + 1) (drop (i + 1) plan)) in
    let here : node ≡ get_or plan i node = is ∙ ap (λ (all : List Node). get_or all i node) same in
    ap (λ (text : List ℕ). text ++ rest) writes ∙ append_assoc old (line_text (node_line i node)) rest
    ∙ ap (λ (n : Node). old ++ (line_text (node_line i n) ++ rest)) here
    ∙ ap (λ (lines : List ℕ). old ++ lines) (sym (lines_next plan i node (omega (arith, ap length same)))) ∙ so_far

pub room_left : (plan nodes : List Node) (i : ℕ) (node : Node) → nodes ≡ plan → i < length nodes → node ≡ get_or nodes i node →
    sum_by longest_line (drop i plan) ≡ longest_line node + sum_by longest_line (drop (i + 1) plan)
room_left plan nodes i node same inside is =
    let here : node ≡ get_or plan i node = is ∙ ap (λ (all : List Node). get_or all i node) same in
    ap (sum_by longest_line) (drop_more plan i node (omega (arith, ap length same))) ∙ sum_by-cons longest_line (get_or plan i node) (drop (i + 1) plan)
    ∙ ap (λ (n : Node). longest_line n + sum_by longest_line (drop (i + 1) plan)) (sym here)
