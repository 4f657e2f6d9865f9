-- The words for where a node goes on and the parts of a branch are read as such.
use Rattle.std.proofs.Common.{◌≡◌, ℕ, ◌<◌, ◌≤◌, Bool, true, false, not, List, [], ◌∷◌, ◌++◌, length, Some, Ok}
use Rattle.std.proofs.Common.{decimal, refl, ap, ◌∙◌, arith}
use Rattle.std.specs.Prelude.{position}
use Rattle.std.specs.List.{list_any, list_all, position_or_len}
use Rattle.std.proofs.lemmas.Bool.{lt-ltb}
use Rattle.std.proofs.lemmas.List.{length-append}
use Rattle.std.proofs.lemmas.List.Sums.{position_or_len_is}
use Rattle.std.proofs.Math.ListN.{get_or-append}
use Rattle.std.proofs.Math.Seq.{take-append_seam, drop-append-add, get_or-append_seam}
use Rattle.crib_text.proofs.ReadingLemmas.{number_spelled}
use Rattle.crib_plan.specs.declared.plan.Next.{Next}
use Rattle.crib_plan.specs.declared.plan.Next.TheVariants.{End, To}
use Rattle.crib_plan.specs.Nodes.{IsLater}
use Rattle.crib_plan.specs.Spelling.{colon, next_word}
use Rattle.crib_plan.specs.Reading.{later_node, node_in, next_in, is_colon, parts_in}
use Rattle.crib_plan.proofs.SeeSets.{none_at}
use Rattle.crib_plan.proofs.WordLemmas.{decimal_not_end}

-- ---- where a node goes on

pub later_spelled : (number count node : ℕ) → number < node → node < count → later_node number count node ≡ Ok node
unfolding later_node
later_spelled number count node above below = rw (lt-ltb number node above, lt-ltb node count below) refl

node_spelled : (number count node : ℕ) → count ≤ 65535 → number < node → node < count → node_in number count (decimal node) ≡ Ok node
unfolding node_in
node_spelled number count node few above below = rw (number_spelled node (omega arith)) (later_spelled number count node above below)

pub next_spelled : (number count : ℕ) (next : Next) → count ≤ 65535 → IsLater number count next → next_in number count (next_word next) ≡ Ok next
unfolding next_in
next_spelled number count End few later = refl
next_spelled number count (To node) few later =
    rw (decimal_not_end node (omega (arith, later.1)), node_spelled number count node few later.0 later.1) refl

-- ---- the two parts of a word

pub position_there : {X : Type 0} (p : X → Bool) (xs : List X) (i : ℕ) → position_or_len p xs ≡ i → i < length xs → position p xs ≡ Some i
position_there p xs i is inside = rw (is, lt-ltb i (length xs) inside) refl

first_there : {X : Type 0} (p : X → Bool) (front : List X) (x : X) (back : List X) → list_any p front ≡ false → p x ≡ true
    → position p (front ++ x ∷ back) ≡ Some (length front)
first_there p front x back none here =
    let long = length-append front (x ∷ back) in
    let first = position_or_len_is p (front ++ x ∷ back) (length front) x (omega (arith, long)) (λ k below.
    ap p (get_or-append front (x ∷ back) x k below) ∙ none_at p front k x below none) (λ inside. ap p (get_or-append_seam front x back x) ∙ here) in
    position_there p (front ++ x ∷ back) (length front) first (omega (arith, long))

pub parts_spelled : (front back : List ℕ) → list_any is_colon front ≡ false → list_any is_colon back ≡ false →
    parts_in (front ++ colon ∷ back) ≡ Ok (record { front = front; back = back })
unfolding parts_in
parts_spelled front back none none2 =
    rw (first_there is_colon front colon back none refl, drop-append-add front (colon ∷ back) 1, none2, take-append_seam front (colon ∷ back)) refl

pub no_colon : (bytes : List ℕ) → list_all (λ byte. not (is_colon byte)) bytes ≡ true → list_any is_colon bytes ≡ false
no_colon [] all = refl
no_colon (byte ∷ bytes) all = grind (arith, all, no_colon bytes)
