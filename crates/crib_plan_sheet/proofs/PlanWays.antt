-- How often the nodes of a plan are led to, counted node by node and letter by letter.
use Rattle.std.proofs.Common.{◌≡◌, ◌≢◌, ℕ, zero, suc, ◌+◌, ◌<◌, ◌≤◌, min, cond, eqb, Bool, false, not, ◌&&◌, List, [], ◌∷◌, length, take, set}
use Rattle.std.proofs.Common.{replicate}
use Rattle.std.proofs.Common.{get_or, Some, None, refl, sym, ap, ◌∙◌, arith}
use Rattle.std.specs.List.{list_any, count_by}
use Rattle.std.proofs.lemmas.Bool.Decides.{nat_tests}
use Rattle.std.proofs.lemmas.List.{get_or-set_same, get_or-set_other, take_all}
use Rattle.std.proofs.lemmas.List.Folds.{list_any_more}
use Rattle.std.proofs.lemmas.List.Sums.{sum_by_more}
use Rattle.std.proofs.lemmas.Option.{slice_get_past, unwrap_or-slice_get}
use Rattle.crib_plan.specs.declared.plan.Next.{Next}
use Rattle.crib_plan.specs.declared.plan.Next.TheVariants.{End, To}
use Rattle.crib_plan.specs.declared.plan.Node.{Node}
use Rattle.crib_plan.specs.Spelling.{leads_to, new_node}
use Rattle.crib_plan_sheet.specs.PlanBranches.{node_leads}
use Rattle.crib_plan_sheet.specs.Private.Ways.{ways_in, one_more}

-- whether a place is a node, and none of the places before it is the same
abbrev leads_anew : ℕ → List Next → Next → Bool
leads_anew node before place = leads_to node place && not (list_any (leads_to node) before)

-- ---- one entry is written

set_here : (ways : List ℕ) (i : ℕ) (way : ℕ) → i < length ways → ways_in (set ways i way) i ≡ way
set_here ways i way within = unwrap_or-slice_get (set ways i way) i 2 ∙ get_or-set_same ways i way 2 within

set_there : (ways : List ℕ) (i j : ℕ) (way : ℕ) → i ≢ j → ways_in (set ways i way) j ≡ ways_in ways j
set_there ways i j way differs =
    unwrap_or-slice_get (set ways i way) j 2 ∙ get_or-set_other ways i j way 2 (λ e. differs (sym e)) ∙ sym (unwrap_or-slice_get ways j 2)

pub at_entry : (ways : List ℕ) (i : ℕ) (none : ℕ) → i < length ways → ways_in ways i ≡ get_or ways i none
at_entry [] i none within = absurd (omega arith)
at_entry (first ∷ ways) zero none within = refl
at_entry (first ∷ ways) (suc i) none within = at_entry ways i none (omega arith)

-- ---- a place that may lead to a node

anew_some : (before : List Next) (place : Next) (node number : ℕ) → new_node before place ≡ Some node → leads_anew number before place ≡ eqb node number
anew_some before End node number is = absurd cc
anew_some before (To other) node number is = grind (arith, nat_tests)

anew_none : (before : List Next) (place : Next) (number : ℕ) → new_node before place ≡ None → leads_anew number before place ≡ false
anew_none before End number is = refl
anew_none before (To other) number is = grind (arith, nat_tests)

-- one way more to the node of a place
pub one_way : (ways : List ℕ) (before : List Next) (place : Next) (node : ℕ) (way none : ℕ) → node < length ways →
    new_node before place ≡ Some node → way ≡ min 2 (get_or ways node none + 1) → (number : ℕ) →
    ways_in (set ways node way) number ≡ one_more (ways_in ways number) (leads_anew number before place)
one_way ways before place node way none within new counted number =
    grind (arith, nat_tests, anew_some before place node number new, set_here, set_there, at_entry ways node none within)

-- the node of a place is not counted if it has no entry
pub no_entry : (ways : List ℕ) (before : List Next) (place : Next) (node : ℕ) → length ways ≤ node → new_node before place ≡ Some node →
    (number : ℕ) → ways_in ways number ≡ one_more (ways_in ways number) (leads_anew number before place)
no_entry ways before place node past new number =
    grind (arith, nat_tests, anew_some before place node number new, slice_get_past ways node past)

-- a place that leads to no node, or to the same node as an earlier one
pub no_way : (ways : List ℕ) (before : List Next) (place : Next) → new_node before place ≡ None → (number : ℕ) →
    ways_in ways number ≡ one_more (ways_in ways number) (leads_anew number before place)
no_way ways before place new number = sym (ap (one_more (ways_in ways number)) (anew_none before place number new))

-- ---- the letters of a look

pub next_letter : (count now : ℕ) (places : List Next) (index number : ℕ) → index < length places →
    now ≡ one_more count (list_any (leads_to number) (take index places)) →
    one_more now (leads_anew number (take index places) (get_or places index End)) ≡ one_more count (list_any (leads_to number) (take (index + 1) places))
next_letter count now places index number within is = grind (arith, is, list_any_more (leads_to number) places index End within)

pub all_letters : (count now : ℕ) (places : List Next) (index number : ℕ) → length places ≤ index →
    now ≡ one_more count (list_any (leads_to number) (take index places)) → now ≡ one_more count (list_any (leads_to number) places)
all_letters count now places index number past is = rw (take_all index places past) at is

-- ---- the nodes of a plan

pub next_node : (now : ℕ) (nodes : List Node) (i number : ℕ) (none : Node) → i < length nodes →
    now ≡ min 2 (count_by (node_leads number) (take i nodes)) →
    one_more now (node_leads number (get_or nodes i none)) ≡ min 2 (count_by (node_leads number) (take (i + 1) nodes))
next_node now nodes i number none within is =
    grind (arith, is, sum_by_more (λ node. cond (node_leads number node) 1 0) nodes i none within)

pub all_nodes : (now : ℕ) (nodes : List Node) (i number : ℕ) → length nodes ≤ i →
    now ≡ min 2 (count_by (node_leads number) (take i nodes)) → now ≡ min 2 (count_by (node_leads number) nodes)
all_nodes now nodes i number past is = rw (take_all i nodes past) at is

-- ---- entries before anything is counted

pub none_yet : (count node : ℕ) → node < count → ways_in (replicate count 0) node ≡ 0
none_yet zero node within = absurd (omega arith)
none_yet (suc count) zero within = refl
none_yet (suc count) (suc node) within = none_yet count node (omega arith)
