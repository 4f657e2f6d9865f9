-- Worked examples of a plan that is stuck, and of plans that never are.
use Rattle.std.proofs.Common.{List, [], true, refl}
use Rattle.std.proofs.lemmas.Bool.{both_ways}
use Rattle.crib_cards.specs.Sets.{set_where}
use Rattle.crib_problem.proofs.ExampleProblems.{aces, four_twos}
use Rattle.crib_problem.specs.Setup.{Setup}
use Rattle.crib_plan.specs.declared.plan.Node.{Node}
use Rattle.crib_sure.specs.Sure.{IsFollowed, IsSure}
use Rattle.crib_search.specs.Tried.{IsNeverStuck}

-- nothing is stated at the first lead, though each card of the owner fits
at_the_lead : IsFollowed four_twos [] aces []
unfolding set_where
at_the_lead = record { deal = assumption; legal = tt; begins = record { later = []; parts = refl }; follows = tt }

pub stuck_at_the_lead : IsNeverStuck four_twos [] → ⊥
stuck_at_the_lead never = absurd (both_ways true (never aces [] at_the_lead) refl)

-- a sure plan never is
sure_plan_is_never_stuck : (problem : Setup) (plan : List Node) → IsSure problem plan → IsNeverStuck problem plan
sure_plan_is_never_stuck problem plan sure = sure.never_stuck
