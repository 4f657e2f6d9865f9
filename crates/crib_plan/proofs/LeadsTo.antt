-- Whether some branch leads to a node.
use Rattle.std.proofs.Common.{◌≡◌, ℕ, Bool, true, false, not, cond, ◌&&◌, ◌||◌, List, [], ◌∷◌, ◌++◌}
use Rattle.std.proofs.Common.{refl, sym, ◌∙◌, arith}
use Rattle.std.specs.List.{list_any}
use Rattle.std.proofs.lemmas.Bool.Decides.{nat_tests}
use Rattle.std.proofs.Math.Bool.{or-false, and-true}
use Rattle.crib_cards.specs.Sets.{has}
use Rattle.crib_plan.specs.declared.plan.Next.{Next}
use Rattle.crib_plan.specs.declared.plan.Next.TheVariants.{End, To}
use Rattle.crib_plan.specs.Spelling.{leads_to, nodes_of}
use Rattle.crib_plan.specs.Private.Spelling.{seen_after}

-- whether some branch leads to a node
abbrev pub leads : List Next → ℕ → Bool
leads nexts node = list_any (leads_to node) nexts

-- whether a branch leads to some of the nodes
abbrev pub leads_in : List ℕ → Next → Bool
leads_in nodes End = false
leads_in nodes (To node) = has nodes node

pub nodes_of-append : (before : List ℕ) (xs ys : List Next) → nodes_of before (xs ++ ys) ≡ nodes_of before xs ++ nodes_of (seen_after before xs) ys
nodes_of-append before [] ys = refl
nodes_of-append before (End ∷ xs) ys = nodes_of-append before xs ys
nodes_of-append before (To node ∷ xs) ys = grind (arith, nodes_of-append before xs ys, nodes_of-append (node ∷ before) xs ys)

pub seen_after-append : (before : List ℕ) (xs ys : List Next) → seen_after before (xs ++ ys) ≡ seen_after (seen_after before xs) ys
seen_after-append before [] ys = refl
seen_after-append before (End ∷ xs) ys = seen_after-append before xs ys
seen_after-append before (To node ∷ xs) ys = grind (arith, seen_after-append before xs ys, seen_after-append (node ∷ before) xs ys)

pub or_comm3 : (a b c : Bool) → ((a || b) || c) ≡ (b || (a || c))
or_comm3 a b c = grind arith

pub or_rest : (a b : Bool) → (a || b) ≡ true → a ≡ false → b ≡ true
or_rest a b e f = grind arith

pub has-seen_after : (before : List ℕ) (xs : List Next) (node : ℕ) → has (seen_after before xs) node ≡ (has before node || leads xs node)
has-seen_after before [] node = sym (or-false (has before node))
has-seen_after before (End ∷ xs) node = has-seen_after before xs node
has-seen_after before (To other ∷ xs) node = grind (arith, nat_tests, has-seen_after before xs node, has-seen_after (other ∷ before) xs node)

-- one more branch adds its node, if no branch led to it
pub nodes_more : (front : List Next) (node : ℕ) (led : Bool) → leads front node ≡ led
    → nodes_of [] (front ++ To node ∷ []) ≡ nodes_of [] front ++ cond led [] (node ∷ [])
nodes_more front node led e = nodes_of-append [] front (To node ∷ []) ∙ rw (has-seen_after [] front node ∙ e) refl

pub has-nodes_of : (before : List ℕ) (xs : List Next) (node : ℕ) → has (nodes_of before xs) node ≡ (leads xs node && not (has before node))
has-nodes_of before [] node = refl
has-nodes_of before (End ∷ xs) node = has-nodes_of before xs node
has-nodes_of before (To other ∷ xs) node = grind (arith, nat_tests, has-nodes_of before xs node, has-nodes_of (other ∷ before) xs node)

-- the nodes that branches lead to
pub has_nodes : (xs : List Next) (node : ℕ) → has (nodes_of [] xs) node ≡ leads xs node
has_nodes xs node = has-nodes_of [] xs node ∙ and-true (leads xs node)
