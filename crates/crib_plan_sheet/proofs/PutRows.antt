-- The rows and lines of a sheet, put on a device.
use Rattle.std.proofs.Common.{◌≡◌, ℕ, zero, suc, ◌+◌, ◌-◌, ◌*◌, ◌<◌, ◌≤◌, ◌∙◌, Bool, true, false, cond, List, [], ◌∷◌, ◌++◌, Some, None, length, map, filter}
use Rattle.std.proofs.Common.{nat_lt, take, replicate, get_or, codes, decimal, refl, ap, sym, append_assoc, arith}
use Rattle.std.specs.List.{flat_map}
use Rattle.std.proofs.lemmas.List.{drop_all}
use Rattle.crib_cards.specs.CardText.{card_text}
use Rattle.crib_text.specs.Spelling.{space}
use Rattle.crib_plan.specs.declared.plan.Next.{Next}
use Rattle.crib_plan.specs.declared.plan.Next.TheVariants.{End, To}
use Rattle.crib_plan.specs.declared.plan.Node.{Node}
use Rattle.crib_plan.specs.declared.plan.Node.TheVariants.{Play, See}
use Rattle.crib_plan.specs.Nodes.{IsLater, IsNode, ArePlan}
use Rattle.crib_plan.specs.Places.{plan_start}
use Rattle.crib_plan.specs.Spelling.{leads_to, new_node}
use Rattle.crib_run.specs.Prints.{Stand, Prints}
use Rattle.crib_run.proofs.Printing.{SoFar, more, as_text, so_far_more, so_far_skip, so_far_done}
use Rattle.crib_plan_sheet.specs.PlanSheet.{Paragraph, Named, lines_to, row_of, rows_from, sheet_with, Over}
use Rattle.crib_plan_sheet.specs.PlanOutline.{apart_in, is_long}
use Rattle.crib_plan_sheet.specs.PlanSheetSize.{level_count}
use Rattle.crib_plan_sheet.specs.PlanText.{row_text, lines_text, before_rest, indent, label, label_width, paragraph_text}
use Rattle.crib_plan_sheet.specs.PlanPage.{begins_long, end_of_row, legend_text, no_card, page_text}
use Rattle.crib_plan_sheet.specs.Private.Pages.{first_text, IsDeep, place_row, node_row, lines_at, line_front, width_at}
use Rattle.crib_plan_sheet.specs.Private.Pages.{paragraphs_text}
use Rattle.crib_plan_sheet.proofs.LabelPieces.{column_from, line_at}
use Rattle.crib_plan_sheet.proofs.PlanRows.{page_is, room, node_at, place_end, place_apart, place_node, node_play, node_see}
use Rattle.crib_plan_sheet.proofs.PlanRows.{paragraph_more, paragraph_none}

-- ---- places

-- a node of a plan, as it is read
pub seen : (plan nodes : List Node) (i : ℕ) (found node : Node) → nodes ≡ plan → found ≡ get_or nodes i found → found ≡ node → get_or plan i found ≡ node
seen plan nodes i found node same read is = cc

pub node_seen : (plan nodes : List Node) (i : ℕ) (found node : Node) → nodes ≡ plan → found ≡ get_or nodes i found → found ≡ node → ArePlan plan →
    i < length plan → IsNode i (length plan) node
node_seen plan nodes i found node same read is are inside = node_at plan i found node are inside (seen plan nodes i found node same read is)

-- ---- nodes

any_width : (apart : ℕ → Bool) (later : List Paragraph) (all : List Next) (from : ℕ) (branches : List Next) →
    label_width (lines_to apart later all from branches) ≡ label_width (lines_to (apart_in []) [] all from branches)
any_width apart later all from [] = refl
any_width apart later all from (End ∷ branches) = any_width apart later all (from + 1) branches
any_width apart later all from (To node ∷ branches) = grind (arith, any_width apart later all (from + 1) branches)

width_same : (flags : List Bool) (plan : List Node) (branches : List Next) → label_width (lines_at flags plan branches 0) ≡ width_at branches 0
unfolding lines_at width_at
width_same flags plan branches = any_width (apart_in flags) (rows_from (apart_in flags) 0 plan) branches 0 branches

-- what a walk may ask of the nodes that a node leads to
pub deep_later : (level number count : ℕ) (next : Next) → level ≤ number + 1 → IsLater number count next → IsDeep level count next
deep_later level number count End deep later = tt
deep_later level number count (To node) deep later = let above = later.0 in (omega arith, later.1)

pub room_later : (number count : ℕ) (next : Next) → number < count → IsLater number count next → room count next + 1 ≤ count - number
room_later number count End inside later = omega arith
room_later number count (To node) inside later = let above = later.0 in let below = later.1 in omega arith

pub start_deep : (plan : List Node) → IsDeep 0 (length plan) (plan_start plan)
start_deep [] = tt
start_deep (node ∷ plan) = (omega arith, omega arith)

-- ---- lines

-- one more line
line_more : (flags : List Bool) (plan : List Node) (level width : ℕ) (all : List Next) (i node : ℕ) (d : Next) → i < length all →
    new_node (take i all) (get_or all i d) ≡ Some node →
    (line_front level width (map (leads_to node) all) ++ row_text level (place_row flags plan (To node)))
    ++ lines_text level width (lines_at flags plan all (i + 1)) ≡ lines_text level width (lines_at flags plan all i)
unfolding line_front lines_at place_row
line_more flags plan level width all i node d inside some =
    ap (lines_text level width) (sym (line_at (apart_in flags) (rows_from (apart_in flags) 0 plan) all i d (Some node) inside some))

line_skipped : (flags : List Bool) (plan : List Node) (level width : ℕ) (all : List Next) (i : ℕ) (d : Next) → i < length all →
    new_node (take i all) (get_or all i d) ≡ None →
    lines_text level width (lines_at flags plan all (i + 1)) ≡ lines_text level width (lines_at flags plan all i)
unfolding lines_at
line_skipped flags plan level width all i d inside none =
    ap (lines_text level width) (sym (line_at (apart_in flags) (rows_from (apart_in flags) 0 plan) all i d None inside none))

no_more_lines : (flags : List Bool) (plan : List Node) (level width : ℕ) (all : List Next) (i : ℕ) → length all ≤ i →
    lines_text level width (lines_at flags plan all i) ≡ []
unfolding lines_at
no_more_lines flags plan level width all i past =
    ap (λ branches. lines_text level width (lines_to (apart_in flags) (rows_from (apart_in flags) 0 plan) all i branches)) (drop_all i all past)

-- ---- rows as they are put

pub put_end : (flags : List Bool) (plan : List Node) (level : ℕ) (place : Next) {s t : Stand} → place ≡ End → Prints (codes "\n") s t →
    Prints (row_text level (place_row flags plan place)) s t
put_end flags plan level place is put = rw (is, place_end flags plan) put

pub put_apart : (flags : List Bool) (plan : List Node) (level node : ℕ) (place : Next) {s t u v : Stand} → place ≡ To node → apart_in flags node ≡ true →
    Prints (codes "see [") s t → Prints (decimal node) t u → Prints (codes "]\n") u v → Prints (row_text level (place_row flags plan place)) s v
put_apart flags plan level node place is apart opened number closed =
    rw (is, place_apart flags plan node apart) (more (more opened number) closed)

pub put_whole : (flags : List Bool) (plan : List Node) (level node : ℕ) (place : Next) {s t : Stand} → place ≡ To node → apart_in flags node ≡ false →
    Prints (row_text level (node_row flags plan node)) s t → Prints (row_text level (place_row flags plan place)) s t
put_whole flags plan level node place is apart put = rw (is, place_node flags plan node apart) put

pub put_play : (flags : List Bool) (plan : List Node) (level i card : ℕ) (next : Next) (d : Node) {written between : List ℕ} {s t u v : Stand} →
    ArePlan plan → i < length plan → get_or plan i d ≡ Play card next → written ≡ card_text card →
    between ≡ before_rest (place_row flags plan next) → Prints written s t → Prints between t u →
    Prints (row_text level (place_row flags plan next)) u v → Prints (row_text level (node_row flags plan i)) s v
put_play flags plan level i card next d are inside is text rest first second third =
    rw (node_play flags plan i card next d are inside is) (rw (text, rest) at (more (more first second) third))

pub put_look : (flags : List Bool) (plan : List Node) (level i : ℕ) (branches : List Next) (d : Node) {s t u : Stand} →
    ArePlan plan → i < length plan → get_or plan i d ≡ See branches → Prints (codes "look:\n") s t →
    Prints (lines_text (level + 1) (width_at branches 0) (lines_at flags plan branches 0)) t u → Prints (row_text level (node_row flags plan i)) s u
put_look flags plan level i branches d are inside is first lines =
    rw (node_see flags plan i branches d are inside is, width_same flags plan branches) (more first lines)

-- one more line of a look, or none
abbrev pub LinesPut : List Bool → List Node → ℕ → List Next → ℕ → Stand → Stand → Type 0
LinesPut flags plan level all i s t =
    SoFar (lines_text level (width_at all 0) (lines_at flags plan all i)) (lines_text level (width_at all 0) (lines_at flags plan all 0)) s t

pub put_line : (flags : List Bool) (plan : List Node) (level width : ℕ) (all : List Next) (i node : ℕ) (d : Next) (set : List Bool)
    {s t u v : Stand} → length all ≡ 14 → i < 14 → new_node (take i all) (get_or all i d) ≡ Some node → width ≡ width_at all 0 →
    set ≡ map (leads_to node) all → LinesPut flags plan level all i s t → Prints (line_front level width set) t u →
    Prints (row_text level (place_row flags plan (To node))) u v → LinesPut flags plan level all (i + 1) s v
put_line flags plan level width all i node d set long inside some wide led so_far front row =
    so_far_more (line_more flags plan level (width_at all 0) all i node d (omega (arith, long, inside)) some) so_far
    (rw (wide, led) at (more front row))

pub put_none : (flags : List Bool) (plan : List Node) (level : ℕ) (all : List Next) (i : ℕ) (d : Next) {s t : Stand} → length all ≡ 14 → i < 14 →
    new_node (take i all) (get_or all i d) ≡ None → LinesPut flags plan level all i s t → LinesPut flags plan level all (i + 1) s t
put_none flags plan level all i d long inside none so_far =
    so_far_skip (line_skipped flags plan level (width_at all 0) all i d (omega (arith, long, inside)) none) so_far

pub put_all : (flags : List Bool) (plan : List Node) (level : ℕ) (all : List Next) (i : ℕ) {s t : Stand} → length all ≡ 14 → 14 ≤ i →
    LinesPut flags plan level all i s t → Prints (lines_text level (width_at all 0) (lines_at flags plan all 0)) s t
put_all flags plan level all i long past so_far =
    so_far_done (no_more_lines flags plan level (width_at all 0) all i (omega (arith, long, past))) so_far

-- ---- paragraphs

no_more_paragraphs : (flags : List Bool) (plan : List Node) (i : ℕ) → length plan ≤ i → paragraphs_text flags plan i ≡ []
unfolding paragraphs_text
no_more_paragraphs flags plan i past =
    ap (λ (nodes : List Node). flat_map paragraph_text (filter (λ paragraph. apart_in flags paragraph.number) (rows_from (apart_in flags) i nodes)))
    (drop_all i plan past)

numbered_is : (flags : List Bool) (plan : List Node) (node : ℕ) →
    ((codes "\n[" ++ decimal node) ++ codes "] ") ++ row_text 0 (node_row flags plan node)
    ≡ paragraph_text (record { number = node; row = node_row flags plan node })
unfolding paragraph_text
numbered_is flags plan node = simp append_assoc

-- the paragraphs before a node are put
abbrev pub ParagraphsPut : List Bool → List Node → ℕ → Stand → Stand → Type 0
ParagraphsPut flags plan i s t = SoFar (paragraphs_text flags plan i) (paragraphs_text flags plan 0) s t

pub put_paragraph : (flags : List Bool) (plan nodes : List Node) (i : ℕ) {s t u v w x : Stand} → nodes ≡ plan → i < length nodes →
    apart_in flags i ≡ true → ParagraphsPut flags plan i s t → Prints (codes "\n[") t u → Prints (decimal i) u v → Prints (codes "] ") v w →
    Prints (row_text 0 (node_row flags plan i)) w x → ParagraphsPut flags plan (i + 1) s x
put_paragraph flags plan nodes i same inside apart so_far opened number closed row =
    so_far_more (sym (paragraph_more flags plan i (rw (← same) inside) apart)) so_far
    (as_text (more (more (more opened number) closed) row) (numbered_is flags plan i))

pub put_no_paragraph : (flags : List Bool) (plan nodes : List Node) (i : ℕ) {s t : Stand} → nodes ≡ plan → i < length nodes →
    apart_in flags i ≡ false → ParagraphsPut flags plan i s t → ParagraphsPut flags plan (i + 1) s t
put_no_paragraph flags plan nodes i same inside apart so_far = so_far_skip (sym (paragraph_none flags plan i (rw (← same) inside) apart)) so_far

pub put_paragraphs : (flags : List Bool) (plan nodes : List Node) (i : ℕ) {s t : Stand} → nodes ≡ plan → length nodes ≤ i →
    ParagraphsPut flags plan i s t → Prints (paragraphs_text flags plan 0) s t
put_paragraphs flags plan nodes i same past so_far = so_far_done (no_more_paragraphs flags plan i (rw (← same) past)) so_far

-- ---- the first row

first_of_none : (sure : Bool) (flags : List Bool) (plan : List Node) → length plan ≡ 0 →
    no_card sure Over ++ codes "\n" ≡ first_text sure flags plan
unfolding first_text place_row
first_of_none sure flags [] empty = refl
first_of_none sure flags (node ∷ plan) empty = absurd (omega arith)

-- a node's row is more than nothing
needed : (sure is_apart : Bool) (apart : ℕ → Bool) (later : List Paragraph) (node : Node) →
    no_card sure (cond is_apart (Named 0) (row_of apart later node)) ≡ []
needed sure true apart later node = refl
needed sure false apart later (Play card next) = refl
needed sure false apart later (See branches) = refl

first_of_some : (sure : Bool) (flags : List Bool) (plan : List Node) → 0 < length plan →
    row_text 0 (place_row flags plan (To 0)) ≡ first_text sure flags plan
unfolding first_text place_row
first_of_some sure flags [] some = absurd (omega arith)
first_of_some sure flags (node ∷ plan) some =
    ap (λ (none : List ℕ). none ++ row_text 0 (place_row flags (node ∷ plan) (To 0)))
    (sym (needed sure (apart_in flags 0) (apart_in flags) (rows_from (apart_in flags) 1 plan) node))

pub put_none_first : (sure known : Bool) (flags : List Bool) (plan nodes : List Node) {s t : Stand} → nodes ≡ plan → length nodes ≡ 0 →
    sure ≡ known → Prints (no_card known Over ++ codes "\n") s t → Prints (first_text sure flags plan) s t
put_none_first sure known flags plan nodes same none is put =
    rw (is, ← first_of_none known flags plan (rw (← same) none)) put

pub put_some_first : (sure : Bool) (flags : List Bool) (plan nodes : List Node) {s t : Stand} → nodes ≡ plan → 0 < length nodes →
    Prints (row_text 0 (place_row flags plan (To 0))) s t → Prints (first_text sure flags plan) s t
put_some_first sure flags plan nodes same some put = as_text put (first_of_some sure flags plan (rw (← same) some))

-- whether the sheet of a long plan begins with lines is whether its first row has some
pub long_first : (flags : List Bool) (plan : List Node) (place : Next) → place ≡ plan_start plan → is_long plan ≡ true →
    nat_lt 0 (level_count (place_row flags plan place)) ≡ begins_long (apart_in flags) plan
unfolding place_row sheet_with
long_first flags plan place start long = rw (start, long) refl

-- ---- the pieces of a page, of a name and of the front of a line

-- how to read a sheet, up to what the end of a row means
abbrev pub legend : List ℕ
legend =
    codes "\nPlay a row in order, one card at each of your turns. If none of your cards\nfits, say go and stay there. At \"look\", go on in the line of "
    ++ codes "what they show\nnext: a rank (8-T is 8, 9 or ten), or a go, even after yours: their first in a\n"
    ++ codes "count, with a card left. At \"see [n]\", go on in paragraph [n].\n"

page_from : (sure : Bool) (flags : List Bool) (plan : List Node) (end : List ℕ) → end ≡ end_of_row sure →
    ((first_text sure flags plan ++ paragraphs_text flags plan 0) ++ legend) ++ end ≡ page_text sure (sheet_with (apart_in flags) plan)
unfolding legend_text
page_from sure flags plan end is =
    let first = first_text sure flags plan in
    let rest = paragraphs_text flags plan 0 in
    append_assoc (first ++ rest) legend end ∙ ap (λ (bytes : List ℕ). (first ++ rest) ++ (legend ++ bytes)) is
    ∙ append_assoc first rest (legend_text sure) ∙ sym (page_is sure flags plan)

pub put_page : (sure : Bool) (flags : List Bool) (plan : List Node) (end : List ℕ) {s t u v w : Stand} → end ≡ end_of_row sure →
    Prints (first_text sure flags plan) s t → Prints (paragraphs_text flags plan 0) t u → Prints legend u v → Prints end v w →
    Prints (page_text sure (sheet_with (apart_in flags) plan)) s w
put_page sure flags plan end is first rest meaning last = as_text (more (more (more first rest) meaning) last) (page_from sure flags plan end is)

-- the blanks of one level more
indent_more : (level : ℕ) → indent level ++ codes "    " ≡ indent (level + 1)
indent_more zero = refl
indent_more (suc level) =
    let e : 4 * (suc level + 1) ≡ suc (suc (suc (suc (4 * (level + 1))))) = omega arith in
    let f : 4 * suc level ≡ suc (suc (suc (suc (4 * level)))) = omega arith in
    rw (e, f, ← indent_more level) refl

front_is : (level width blanks : ℕ) (set : List Bool) (written : List ℕ) → written ≡ label set → width ≤ 28 →
    blanks ≡ width - length written →
    ((indent level ++ written) ++ take blanks (replicate 28 space)) ++ codes " : " ≡ line_front level width set
unfolding line_front
front_is level width blanks set written is narrow blank =
    rw (append_assoc (indent level) written (take blanks (replicate 28 space)), blank, column_from width set written is narrow) refl

pub put_blanks : (level : ℕ) {s t u : Stand} → Prints (indent level) s t → Prints (codes "    ") t u → Prints (indent (level + 1)) s u
put_blanks level so_far put = as_text (more so_far put) (indent_more level)

pub put_label : (level step width blanks : ℕ) (set : List Bool) (written : List ℕ) {s t u v w : Stand} → step ≡ level → written ≡ label set →
    width ≤ 28 → blanks ≡ width - length written → Prints (indent step) s t → Prints written t u →
    Prints (take blanks (replicate 28 space)) u v → Prints (codes " : ") v w → Prints (line_front level width set) s w
put_label level step width blanks set written over is narrow blank so_far put after colon =
    as_text (more (more (more (as_text so_far (ap indent over)) put) after) colon) (front_is level width blanks set written is narrow blank)
