-- The lines of a plan as the code reads and writes them, branch by branch, and the most bytes that they need.
use Rattle.std.specs.Prelude.{ℕ, List, [], ◌∷◌, take, drop, if◌then◌else◌}
use Rattle.std.specs.List.{flat_map}
use Rattle.crib_cards.specs.Sets.{has}
use Rattle.crib_text.specs.Spelling.{space}
use Rattle.crib_plan.specs.declared.plan.Next.{Next}
use Rattle.crib_plan.specs.declared.plan.Next.TheVariants.{End, To}
use Rattle.crib_plan.specs.declared.plan.Node.{Node}
use Rattle.crib_plan.specs.declared.plan.Node.TheVariants.{Play, See}
use Rattle.crib_plan.specs.Spelling.{branch_word, nodes_of}

-- the given nodes, with those of some branches added
abbrev pub seen_after : List ℕ → List Next → List ℕ
seen_after before [] = before
seen_after before (End ∷ branches) = seen_after before branches
seen_after before (To node ∷ branches) =
    if has before node then seen_after before branches else seen_after (node ∷ before) branches

-- the word of a branch, after a space
abbrev pub spaced_branch : List Next → ℕ → List ℕ
spaced_branch branches node = space ∷ branch_word branches node

-- the branches whose first letters have this index or a greater one, each after a space
abbrev pub branches_text : List Next → ℕ → List ℕ
branches_text branches index =
    flat_map (spaced_branch branches) (nodes_of (seen_after [] (take index branches)) (drop index branches))

-- the most bytes of a node's line. A play line has at most two numbers of five digits. A see line has at most fourteen
-- branches, with a letter each
abbrev pub longest_line : Node → ℕ
longest_line (Play card next) = 20
longest_line (See branches) = 122
