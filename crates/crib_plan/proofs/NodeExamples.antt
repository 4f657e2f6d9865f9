-- Worked examples of nodes that are a plan, and of nodes that are not.
use Rattle.std.specs.Prelude.{◌≡◌, refl, [], ◌∷◌, ℕ, replicate}
use Rattle.std.proofs.Common.{arith, length, zero, suc, ◌+◌}
use Rattle.std.proofs.lemmas.List.{length-replicate}
use Rattle.crib_plan.specs.declared.plan.Next.TheVariants.{End, To}
use Rattle.crib_plan.specs.declared.plan.Node.TheVariants.{Play, See}
use Rattle.crib_plan.specs.Nodes.{ArePlan, AreNodes, most_nodes}

-- it plays 2C, looks, and plays the king of spades at the last node
pub are_a_plan : ArePlan (Play 4 (To 1) ∷ See (To 2 ∷ replicate 13 End) ∷ Play 51 End ∷ [])
are_a_plan = omega arith

-- a node to itself, also a look and a third one; a number behind the last node; a see node that has a branch for each rank and none for the go; and no card
pub no_plans :
    ¬ (ArePlan (Play 4 (To 1) ∷ Play 5 (To 1) ∷ [])) × ¬ (ArePlan (Play 4 (To 1) ∷ Play 5 (To 2) ∷ Play 6 (To 2) ∷ []))
    × ¬ (ArePlan (See (To 0 ∷ replicate 13 End) ∷ [])) × ¬ (ArePlan (Play 4 (To 1) ∷ [])) × ¬ (ArePlan (See (To 1 ∷ replicate 13 End) ∷ []))
    × ¬ (ArePlan (See (replicate 13 End) ∷ [])) × ¬ (ArePlan (Play 52 End ∷ []))
no_plans = (λ is. omega arith, λ is. omega arith, λ is. omega arith, λ is. omega arith, λ is. omega arith, λ is. omega arith, λ is. omega arith)

pub node_numbers_of_two_bytes : most_nodes ≡ 65535
node_numbers_of_two_bytes = refl

-- a plan with one node too many is no plan
pub too_many_nodes_for_a_plan : ArePlan (replicate 65536 (Play 4 End)) → ⊥
too_many_nodes_for_a_plan is = omega (arith, is.0, length-replicate 65536 (Play 4 End))

ends_are_nodes : (more number count : ℕ) → AreNodes number count (replicate more (Play 4 End))
ends_are_nodes zero number count = tt
ends_are_nodes (suc more) number count = ((omega arith, tt), ends_are_nodes more (number + 1) count)

pub most_nodes_are_a_plan : ArePlan (replicate 65535 (Play 4 End))
most_nodes_are_a_plan =
    let nodes = length-replicate 65535 (Play 4 End) in
    (omega (arith, nodes), ends_are_nodes 65535 0 (length (replicate 65535 (Play 4 End))))
