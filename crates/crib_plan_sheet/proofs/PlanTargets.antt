-- The nodes that the nodes of a plan lead to, and how often each is led to.
use Rattle.std.proofs.Common.{◌≡◌, ℕ, ◌+◌, ◌*◌, ◌<◌, ◌≤◌, Bool, true, cond, eqb, ◌||◌, List, [], ◌∷◌, ◌++◌, length, get_or}
use Rattle.std.proofs.Common.{take, drop, flat_map, refl, sym, ap, ◌∙◌, arith}
use Rattle.std.specs.List.{list_any, count_by}
use Rattle.std.proofs.lemmas.Bool.Decides.{nat_tests}
use Rattle.std.proofs.lemmas.List.{drop-drop, get_or-drop, length-drop}
use Rattle.std.proofs.lemmas.List.Folds.{list_any_more}
use Rattle.std.proofs.lemmas.List.Sums.{sum_by-cons}
use Rattle.crib_cards.specs.Sets.{has}
use Rattle.crib_plan.specs.declared.plan.Next.{Next}
use Rattle.crib_plan.specs.declared.plan.Next.TheVariants.{End, To}
use Rattle.crib_plan.specs.declared.plan.Node.{Node}
use Rattle.crib_plan.specs.declared.plan.Node.TheVariants.{Play, See}
use Rattle.crib_plan.specs.Spelling.{leads_to, nodes_of}
use Rattle.crib_plan_sheet.specs.PlanBranches.{node_leads}

-- ---- sums over numbers

abbrev pub total : (ℕ → ℕ) → List ℕ → ℕ
total value [] = 0
total value (number ∷ numbers) = value number + total value numbers

pub total-append : (value : ℕ → ℕ) (front back : List ℕ) → total value (front ++ back) ≡ total value front + total value back
total-append value [] back = omega arith
total-append value (number ∷ front) back = omega (arith, total-append value front back)

-- how many times a number is in a list
abbrev pub times : ℕ → List ℕ → ℕ
times wanted [] = 0
times wanted (number ∷ numbers) = cond (eqb number wanted) 1 0 + times wanted numbers

pub times-append : (wanted : ℕ) (front back : List ℕ) → times wanted (front ++ back) ≡ times wanted front + times wanted back
times-append wanted [] back = omega arith
times-append wanted (number ∷ front) back = omega (arith, times-append wanted front back)

-- one number's part in a sum, and the sum where it is worth nothing
pub split : (value value' : ℕ → ℕ) (here : ℕ) (numbers : List ℕ) → value' here ≡ 0 → ((number : ℕ) → (number ≡ here → ⊥) → value number ≡ value' number) →
    total value numbers ≡ times here numbers * value here + total value' numbers
split value value' here [] none same = omega arith
split value value' here (number ∷ numbers) none same =
    grind (arith, nat_tests, split value value' here numbers none same, same number)

-- ---- branches

-- one branch further
pub rest_of : (all : List Next) (from : ℕ) (branch : Next) (branches : List Next) → drop from all ≡ branch ∷ branches → drop (from + 1) all ≡ branches
rest_of all from branch branches is = sym (drop-drop 1 from all) ∙ ap (drop 1) is

pub any_next : (p : Next → Bool) (all : List Next) (from : ℕ) (branch : Next) (branches : List Next) → drop from all ≡ branch ∷ branches →
    list_any p (take (from + 1) all) ≡ (list_any p (take from all) || p branch)
any_next p all from branch branches is =
    let within : from < length all = omega (arith, length-drop from all, ap length is) in
    let here : get_or all from branch ≡ branch = grind (arith, get_or-drop from all 0 branch, is) in
    list_any_more p all from branch within ∙ ap (λ b. list_any p (take from all) || p b) here

-- a number that was seen already
pub seen : (before : List ℕ) (node number : ℕ) → has before node ≡ true → has before number ≡ (has before number || eqb node number)
seen before node number is = grind (arith, nat_tests)

-- the nodes that a node leads to, each once
abbrev pub targets : Node → List ℕ
targets (Play card End) = []
targets (Play card (To number)) = number ∷ []
targets (See branches) = nodes_of [] branches

none_again : (wanted : ℕ) (before : List ℕ) (branches : List Next) → has before wanted ≡ true → times wanted (nodes_of before branches) ≡ 0
none_again wanted before [] is = refl
none_again wanted before (End ∷ branches) is = none_again wanted before branches is
none_again wanted before (To node ∷ branches) is =
    grind (arith, nat_tests, is, none_again wanted before branches, none_again wanted (node ∷ before) branches)

nodes_times : (wanted : ℕ) (before : List ℕ) (branches : List Next) →
    times wanted (nodes_of before branches) ≤ cond (list_any (leads_to wanted) branches) 1 0
nodes_times wanted before [] = omega arith
nodes_times wanted before (End ∷ branches) = nodes_times wanted before branches
nodes_times wanted before (To node ∷ branches) =
    grind (arith, nat_tests, none_again, nodes_times wanted before branches, nodes_times wanted (node ∷ before) branches)

targets_times : (wanted : ℕ) (node : Node) → times wanted (targets node) ≤ cond (node_leads wanted node) 1 0
targets_times wanted (Play card End) = omega arith
targets_times wanted (Play card (To number)) = omega arith
targets_times wanted (See branches) = nodes_times wanted [] branches

-- how often a node is led to is at most the number of nodes that lead to it
pub plan_times : (wanted : ℕ) (nodes : List Node) → times wanted (flat_map targets nodes) ≤ count_by (node_leads wanted) nodes
plan_times wanted [] = omega arith
plan_times wanted (node ∷ nodes) =
    omega (arith, times-append, targets_times wanted node, plan_times wanted nodes, sum_by-cons (λ x. cond (node_leads wanted x) 1 0) node nodes)
