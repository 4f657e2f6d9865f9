-- The labels of lines, as they are put together.
use Rattle.std.proofs.Common.{◌≡◌, ℕ, ◌+◌, ◌-◌, max, ◌<◌, ◌≤◌, ◌∙◌, Bool, true, false, List, [], ◌∷◌, ◌++◌, Option, Some, None, length, map}
use Rattle.std.proofs.Common.{take, drop, get_or, replicate, refl, ap, sym, arith, codes}
use Rattle.std.specs.List.{join_with_byte}
use Rattle.std.proofs.lemmas.Grind.{flat_map-append}
use Rattle.std.proofs.lemmas.List.{append-nil, length-take, take-replicate, drop_all, drop_more}
use Rattle.crib_text.specs.Spelling.{space}
use Rattle.crib_plan.specs.declared.plan.Next.{Next}
use Rattle.crib_plan.specs.declared.plan.Next.TheVariants.{End, To}
use Rattle.crib_plan.specs.Spelling.{leads_to, new_node}
use Rattle.crib_plan_sheet.specs.PlanSheet.{Paragraph, Lines, lines_to, row_to, Line}
use Rattle.crib_plan_sheet.specs.PlanOutline.{apart_in}
use Rattle.crib_plan_sheet.specs.PlanText.{range_words, rank_words, go_words, label, label_column, label_width}
use Rattle.crib_plan_sheet.specs.Private.Pages.{spaced, spaced_label, width_at}

-- words with a space between two, and words with a space before each
spaced_words : (word : List ℕ) (words : List (List ℕ)) → space ∷ join_with_byte space (word ∷ words) ≡ spaced (word ∷ words)
spaced_words word [] = ap (λ (rest : List ℕ). space ∷ rest) (sym (append-nil word))
spaced_words word (next ∷ words) = ap (λ (rest : List ℕ). space ∷ (word ++ rest)) (spaced_words next words)

joined : (words : List (List ℕ)) → join_with_byte space words ≡ drop 1 (spaced words)
joined [] = refl
joined (word ∷ words) = ap (drop 1) (spaced_words word words)

pub label_is : (set : List Bool) → label set ≡ drop 1 (spaced_label set)
unfolding label spaced_label
label_is set = joined (rank_words 0 0 (take 13 set) ++ go_words (drop 13 set))

pub column_from : (width : ℕ) (set : List Bool) (written : List ℕ) → written ≡ label set → width ≤ 28 →
    written ++ take (width - length written) (replicate 28 space) ≡ label_column width set
column_from width set written is narrow =
    rw is (ap (λ (blank : List ℕ). label set ++ blank) (take-replicate (width - length (label set)) 28 space (omega arith)))

-- the word for a go, after those for the ranks
go_there : (set : List Bool) (d is : Bool) → length set ≡ 14 → get_or set 13 d ≡ is → go_words (drop 13 set) ≡ go_words (is ∷ drop 14 set)
go_there set d is long go = ap go_words (drop_more set 13 d (omega arith) ∙ ap (λ (b : Bool). b ∷ drop 14 set) go)

pub with_go : (set : List Bool) (d : Bool) (written : List ℕ) → length set ≡ 14 → get_or set 13 d ≡ true → written ≡ spaced (rank_words 0 0 (take 13 set)) →
    written ++ codes " go" ≡ spaced_label set
unfolding spaced_label
with_go set d written long go is =
    rw (is, go_there set d true long go, flat_map-append) refl

pub without_go : (set : List Bool) (d : Bool) (written : List ℕ) → length set ≡ 14 → get_or set 13 d ≡ false →
    written ≡ spaced (rank_words 0 0 (take 13 set)) → written ≡ spaced_label set
unfolding spaced_label
without_go set d written long go is =
    rw (is, go_there set d false long go, append-nil) refl

-- the ranks of a set
pub thirteen : (set : List Bool) → length set ≡ 14 → length (take 13 set) ≡ 13
thirteen set long = omega (arith, length-take 13 set, long)

-- one more letter
pub ranks_in : (ranks : List Bool) (i before : ℕ) (d : Bool) → i < length ranks → get_or ranks i d ≡ true →
    rank_words i before (drop i ranks) ≡ rank_words (i + 1) (before + 1) (drop (i + 1) ranks)
unfolding rank_words
ranks_in ranks i before d inside is = ap (rank_words i before) (drop_more ranks i d inside ∙ ap (λ (b : Bool). b ∷ drop (i + 1) ranks) is)

pub ranks_out : (ranks : List Bool) (i before : ℕ) (d : Bool) → i < length ranks → get_or ranks i d ≡ false →
    rank_words i before (drop i ranks) ≡ range_words i before ++ rank_words (i + 1) 0 (drop (i + 1) ranks)
unfolding rank_words
ranks_out ranks i before d inside is = ap (rank_words i before) (drop_more ranks i d inside ∙ ap (λ (b : Bool). b ∷ drop (i + 1) ranks) is)

-- lines, behind the line of a node if there is one
abbrev pub with_line : (ℕ → Bool) → List Paragraph → List Next → Option ℕ → Lines → Lines
with_line apart later all None others = others
with_line apart later all (Some node) others = Line (map (leads_to node) all) (row_to apart later (To node)) others

from_branch : (apart : ℕ → Bool) (later : List Paragraph) (all : List Next) (i : ℕ) (branch : Next) (rest : List Next) →
    lines_to apart later all i (branch ∷ rest) ≡ with_line apart later all (new_node (take i all) branch) (lines_to apart later all (i + 1) rest)
from_branch apart later all i End rest = refl
from_branch apart later all i (To node) rest = grind (arith)

-- the lines of a look, from a letter on
pub line_at : (apart : ℕ → Bool) (later : List Paragraph) (all : List Next) (i : ℕ) (d : Next) (found : Option ℕ) → i < length all →
    new_node (take i all) (get_or all i d) ≡ found →
    lines_to apart later all i (drop i all) ≡ with_line apart later all found (lines_to apart later all (i + 1) (drop (i + 1) all))
line_at apart later all i d found inside is =
    ap (lines_to apart later all i) (drop_more all i d inside) ∙ from_branch apart later all i (get_or all i d) (drop (i + 1) all)
    ∙ ap (λ some. with_line apart later all some (lines_to apart later all (i + 1) (drop (i + 1) all))) is

pub width_none : (all : List Next) (i : ℕ) (d : Next) → i < length all → new_node (take i all) (get_or all i d) ≡ None →
    width_at all i ≡ width_at all (i + 1)
unfolding width_at
width_none all i d inside none = ap label_width (line_at (apart_in []) [] all i d None inside none)

-- the width with one more line
pub wider : (all : List Next) (i node width now size : ℕ) (d : Next) → i < length all → new_node (take i all) (get_or all i d) ≡ Some node →
    size ≡ length (label (map (leads_to node) all)) → now ≡ max width size → max width (width_at all i) ≡ width_at all 0 →
    max now (width_at all (i + 1)) ≡ width_at all 0
unfolding width_at
wider all i node width now size d inside some long is so_far =
    let e = ap label_width (line_at (apart_in []) [] all i d (Some node) inside some) in omega (arith, e, long, is, so_far)

-- all words of ranks, behind the last index
pub ranks_done : (set : List Bool) (i before : ℕ) (front items : List ℕ) → i ≡ 13 → length set ≡ 14 → items ≡ front ++ spaced (range_words 13 before) →
    front ++ spaced (rank_words i before (drop i (take 13 set))) ≡ spaced (rank_words 0 0 (take 13 set)) →
    items ≡ spaced (rank_words 0 0 (take 13 set))
unfolding rank_words
ranks_done set i before front items here long is so_far =
    is ∙ (rw (drop_all i (take 13 set) (omega (arith, thirteen set long, here)), here) at so_far)

pub width_end : (all : List Next) (i : ℕ) → length all ≤ i → width_at all i ≡ 0
unfolding width_at
width_end all i past = ap (λ (branches : List Next). label_width (lines_to (apart_in []) [] all i branches)) (drop_all i all past)
