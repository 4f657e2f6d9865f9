-- A sheet states what its plan states.
use Rattle.std.proofs.Common.{◌≡◌, ℕ, zero, suc, ◌+◌, ◌<◌, ◌≤◌, Bool, true, false, eqb, List, [], ◌∷◌, length, map, filter, take, drop, slice_get}
use Rattle.std.proofs.Common.{Option, Some, None, unwrap_or, refl, sym, ap, subst, ◌∙◌, arith, add-zero, zero-add}
use Rattle.std.specs.List.{list_any, AllByRecursion}
use Rattle.std.proofs.lemmas.Bool.Decides.{nat_tests}
use Rattle.std.proofs.lemmas.Bool.{cond_both, eq-eqb}
use Rattle.std.proofs.lemmas.Option.{get_or_from_slice_get, slice_get-get_or, slice_get-map, slice_get_within}
use Rattle.std.proofs.lemmas.List.{drop_all, drop_more}
use Rattle.crib_cards.specs.Letters.{letter_index}
use Rattle.crib_cards.specs.declared.letters.Letter.{Letter}
use Rattle.crib_plan.specs.declared.plan.Next.{Next}
use Rattle.crib_plan.specs.declared.plan.Next.TheVariants.{End, To}
use Rattle.crib_plan.specs.declared.plan.Node.{Node}
use Rattle.crib_plan.specs.declared.plan.Node.TheVariants.{Play, See}
use Rattle.crib_plan.specs.Nodes.{IsLater, IsNode, AreNodes}
use Rattle.crib_plan.specs.Spelling.{leads_to}
use Rattle.crib_plan.specs.Places.{plan_start, stated_card, branch_of, card_of_node, after_play, after_letter}
use Rattle.crib_plan_sheet.specs.PlanSheet.{Row, Paragraph, Sheet, Turn, row_named, read_on, card_on, read_card, is_for, row_for, read_letter, read_turn}
use Rattle.crib_plan_sheet.specs.PlanSheet.{read_turns, sheet_card, row_to, lines_to, row_of, rows_from, sheet_with, OwnCard, Shown, Over}
use Rattle.crib_plan_sheet.specs.PlanSheetLaws.{place_after_turn, place_after_turns, StatesTheSame}
use Rattle.crib_plan_sheet.proofs.PlanTargets.{any_next, rest_of}

-- the row that a reader has before them at a place of the plan
abbrev spot : List Paragraph → Next → Row
spot rows End = Over
spot rows (To node) = row_named rows node

-- the paragraphs of the sheet have the rows of their nodes
named_apart : (apart : ℕ → Bool) (rows : List Paragraph) (node : ℕ) → apart node ≡ true →
    row_named (filter (λ paragraph. apart paragraph.number) rows) node ≡ row_named rows node
named_apart apart [] node here = refl
named_apart apart (row ∷ rows) node here = grind (arith, nat_tests, named_apart apart rows node here)

-- a node's row names no paragraph
named_stays : (apart : ℕ → Bool) (sheet : Sheet) (number : ℕ) (nodes : List Node) (node : ℕ) →
    read_on sheet (row_named (rows_from apart number nodes) node) ≡ row_named (rows_from apart number nodes) node
named_stays apart sheet number [] node = refl
named_stays apart sheet number (Play card next ∷ nodes) node =
    cond_both (eqb number node) _ _ (λ row. read_on sheet row ≡ row) (λ e. refl) (λ e. named_stays apart sheet (number + 1) nodes node)
named_stays apart sheet number (See branches ∷ nodes) node =
    cond_both (eqb number node) _ _ (λ row. read_on sheet row ≡ row) (λ e. refl) (λ e. named_stays apart sheet (number + 1) nodes node)

-- the rows from a number on are those of the nodes from there on
pub skip_to : (apart : ℕ → Bool) (from : ℕ) (plan : List Node) (i there other : ℕ) → from + i ≡ there → there ≤ other →
    row_named (rows_from apart from plan) other ≡ row_named (rows_from apart there (drop i plan)) other
skip_to apart from plan zero there other at above = let e : from ≡ there = omega arith in rw e refl
skip_to apart from [] (suc i) there other at above = refl
skip_to apart from (node ∷ plan) (suc i) there other at above = grind (arith, nat_tests, skip_to apart (from + 1) plan i there other)

-- the rows of the nodes behind one
abbrev pub behind : (ℕ → Bool) → List Node → ℕ → List Paragraph
behind apart plan i = rows_from apart (i + 1) (drop (i + 1) plan)

pub row_is : (apart : ℕ → Bool) (plan : List Node) (i : ℕ) (node : Node) → slice_get plan i ≡ Some node →
    row_named (rows_from apart 0 plan) i ≡ row_of apart (behind apart plan i) node
row_is apart plan i node is =
    skip_to apart 0 plan i i i (omega arith) (omega arith)
    ∙ rw (drop_more plan i node (slice_get_within plan i node is), get_or_from_slice_get plan i node node is, eq-eqb i i refl) refl

pub later_is : (apart : ℕ → Bool) (plan : List Node) (i other : ℕ) → i < other →
    row_named (rows_from apart 0 plan) other ≡ row_named (behind apart plan i) other
later_is apart plan i other above = skip_to apart 0 plan (i + 1) (i + 1) other (omega arith) (omega (arith, above))

past : (apart : ℕ → Bool) (plan : List Node) (i : ℕ) → slice_get plan i ≡ None → row_named (rows_from apart 0 plan) i ≡ Over
past apart plan i is =
    skip_to apart 0 plan i i i (omega arith) (omega arith)
    ∙ ap (λ nodes. row_named (rows_from apart i nodes) i) (drop_all i plan (grind (arith, slice_get-get_or plan i (Play 0 End), is)))

-- what is asked of nodes holds of each
node_fits : (number count : ℕ) (nodes : List Node) (i : ℕ) (node : Node) → AreNodes number count nodes → slice_get nodes i ≡ Some node →
    IsNode (number + i) count node
node_fits number count [] i node are is = absurd cc
node_fits number count (first ∷ nodes) zero node are is = let same : first ≡ node = cc in rw (← same, add-zero) are.0
node_fits number count (first ∷ nodes) (suc i) node are is =
    let e : number + 1 + i ≡ number + suc i = omega arith in rw e at (node_fits (number + 1) count nodes i node are.1 is)

pub node_is : (plan : List Node) (i : ℕ) (node : Node) → AreNodes 0 (length plan) plan → slice_get plan i ≡ Some node → IsNode i (length plan) node
node_is plan i node are is = subst (λ k. IsNode k (length plan) node) (zero-add i) (node_fits 0 (length plan) plan i node are is)

-- the branch of a letter is later, if all branches are
pub branch_later : (number count : ℕ) (branches : List Next) (i : ℕ) → AllByRecursion (IsLater number count) branches →
    IsLater number count (unwrap_or (slice_get branches i) End)
branch_later number count [] i all = tt
branch_later number count (branch ∷ branches) zero all = all.0
branch_later number count (branch ∷ branches) (suc i) all = branch_later number count branches i all.1

-- a row that names a paragraph sends the reader to its node's row
goes_on : (apart : ℕ → Bool) (plan : List Node) (sheet : Sheet) →
    sheet.paragraphs ≡ filter (λ paragraph. apart paragraph.number) (rows_from apart 0 plan) →
    (later : List Paragraph) (next : Next) → spot later next ≡ spot (rows_from apart 0 plan) next →
    read_on sheet (row_to apart later next) ≡ spot (rows_from apart 0 plan) next
goes_on apart plan sheet named later End same = refl
goes_on apart plan sheet named later (To node) same =
    cond_both (apart node) _ _ (λ row. read_on sheet row ≡ row_named (rows_from apart 0 plan) node)
    (λ e. ap (λ ps. row_named ps node) named ∙ named_apart apart (rows_from apart 0 plan) node e)
    (λ e. ap (read_on sheet) same ∙ named_stays apart sheet 0 plan node)

-- the lines of a look
is_for_is : (all : List Next) (letter : Letter) (node : ℕ) → is_for (map (leads_to node) all) letter ≡ leads_to node (branch_of all letter)
is_for_is all letter node = grind (arith, slice_get-map (leads_to node) all (letter_index letter))

no_line : (apart : ℕ → Bool) (later : List Paragraph) (all : List Next) (letter : Letter) → branch_of all letter ≡ End →
    (from : ℕ) (branches : List Next) → row_for (lines_to apart later all from branches) letter ≡ Over
no_line apart later all letter end from [] = refl
no_line apart later all letter end from (End ∷ branches) = no_line apart later all letter end (from + 1) branches
no_line apart later all letter end from (To node ∷ branches) =
    grind (arith, is_for_is all letter node, end, no_line apart later all letter end (from + 1) branches)

-- a node to which no earlier letter leads has the first line that is for its letter
line_for : (apart : ℕ → Bool) (later : List Paragraph) (all : List Next) (letter : Letter) (node : ℕ) → branch_of all letter ≡ To node →
    (from : ℕ) (branches : List Next) → drop from all ≡ branches → list_any (leads_to node) (take from all) ≡ false →
    list_any (leads_to node) branches ≡ true → row_for (lines_to apart later all from branches) letter ≡ row_to apart later (To node)
line_for apart later all letter node there from [] is none some = absurd cc
line_for apart later all letter node there from (End ∷ branches) is none some =
    let more = line_for apart later all letter node there (from + 1) branches (rest_of all from End branches is) in
    grind (arith, any_next (leads_to node) all from End branches is, more)
line_for apart later all letter node there from (To other ∷ branches) is none some =
    let more = line_for apart later all letter node there (from + 1) branches (rest_of all from (To other) branches is) in
    grind (arith, nat_tests, is_for_is all letter other, is_for_is all letter node, there, any_next (leads_to node) all from (To other) branches is, more)

any_at : (branches : List Next) (i node : ℕ) → unwrap_or (slice_get branches i) End ≡ To node → list_any (leads_to node) branches ≡ true
any_at [] i node is = absurd cc
any_at (branch ∷ branches) zero node is = grind (arith, nat_tests)
any_at (branch ∷ branches) (suc i) node is = grind (arith, any_at branches i node is)

-- the line of a letter has the row of the place to which the letter leads
pub line_of : (apart : ℕ → Bool) (later : List Paragraph) (branches : List Next) (letter : Letter) (next : Next) → branch_of branches letter ≡ next →
    row_for (lines_to apart later branches 0 branches) letter ≡ row_to apart later next
line_of apart later branches letter End is = no_line apart later branches letter is 0 branches
line_of apart later branches letter (To node) is =
    line_for apart later branches letter node is 0 branches refl refl (any_at branches (letter_index letter) node is)

-- a reader and the plan
module _ (apart : ℕ → Bool) (plan : List Node) (are : AreNodes 0 (length plan) plan) (sheet : Sheet)
    (named : sheet.paragraphs ≡ filter (λ paragraph. apart paragraph.number) (rows_from apart 0 plan)) where
  abbrev rows : List Paragraph
  rows = rows_from apart 0 plan

  leads_on : (number : ℕ) (next : Next) → IsLater number (length plan) next → read_on sheet (row_to apart (behind apart plan number) next) ≡ spot rows next
  leads_on number End is = goes_on apart plan sheet named (behind apart plan number) End refl
  leads_on number (To other) is = goes_on apart plan sheet named (behind apart plan number) (To other) (sym (later_is apart plan number other is.0))

  card_at : (node : ℕ) (found : Option Node) → slice_get plan node ≡ found → card_on (row_named rows node) ≡ card_of_node found
  card_at node None is = ap card_on (past apart plan node is)
  card_at node (Some one) is = grind (arith, row_is apart plan node one is)

  own_at : (node : ℕ) (found : Option Node) → slice_get plan node ≡ found → read_card sheet (row_named rows node) ≡ spot rows (after_play found (To node))
  own_at node None is = rw (past apart plan node is) refl
  own_at node (Some (Play card next)) is =
      rw (row_is apart plan node (Play card next) is) (leads_on node next (node_is plan node (Play card next) are is).1)
  own_at node (Some (See branches)) is = rw (row_is apart plan node (See branches) is) refl

  shown_at : (node : ℕ) (letter : Letter) (found : Option Node) → slice_get plan node ≡ found →
      read_letter sheet (row_named rows node) letter ≡ spot rows (after_letter found letter (To node))
  shown_at node letter None is = rw (past apart plan node is) refl
  shown_at node letter (Some (Play card next)) is = rw (row_is apart plan node (Play card next) is) refl
  shown_at node letter (Some (See branches)) is =
      rw (row_is apart plan node (See branches) is, line_of apart (behind apart plan node) branches letter (branch_of branches letter) refl)
      (leads_on node (branch_of branches letter)
      (branch_later node (length plan) branches (letter_index letter) (node_is plan node (See branches) are is).1))

  after_turn : (place : Next) (turn : Turn) → read_turn sheet (spot rows place) turn ≡ spot rows (place_after_turn plan place turn)
  after_turn End OwnCard = refl
  after_turn End (Shown letter) = refl
  after_turn (To node) OwnCard = own_at node (slice_get plan node) refl
  after_turn (To node) (Shown letter) = shown_at node letter (slice_get plan node) refl

  after_turns : (place : Next) (turns : List Turn) → read_turns sheet (spot rows place) turns ≡ spot rows (place_after_turns plan place turns)
  after_turns place [] = refl
  after_turns place (turn ∷ turns) =
      ap (λ row. read_turns sheet row turns) (after_turn place turn) ∙ after_turns (place_after_turn plan place turn) turns

  card_stated : (place : Next) → card_on (spot rows place) ≡ stated_card plan place
  card_stated End = refl
  card_stated (To node) = card_at node (slice_get plan node) refl

  states : sheet.first ≡ row_to apart rows (plan_start plan) → (turns : List Turn) →
      card_on (read_turns sheet (read_on sheet sheet.first) turns) ≡ stated_card plan (place_after_turns plan (plan_start plan) turns)
  states first turns =
      ap (λ row. card_on (read_turns sheet row turns)) (ap (read_on sheet) first ∙ goes_on apart plan sheet named rows (plan_start plan) refl)
      ∙ ap card_on (after_turns (plan_start plan) turns)
      ∙ card_stated (place_after_turns plan (plan_start plan) turns)

pub states_the_same : StatesTheSame
unfolding sheet_with sheet_card
states_the_same apart plan turns is = states apart plan is.1 (sheet_with apart plan) refl refl turns
