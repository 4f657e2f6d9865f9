-- The laws of the finder's plan.
use Rattle.std.proofs.Common.{◌≡◌, Some, None}
use Rattle.crib_know.proofs.OpeningLawProofs.{played_led}
use Rattle.crib_search.specs.Trees.{plan_of_tree}
use Rattle.crib_search.specs.Laws.{SureLaw, NoneLaw}
use Rattle.crib_search.proofs.TreeWalks.{plan_stands}
use Rattle.crib_search.proofs.FoundBySide.{finds_of_tree}
use Rattle.crib_search.proofs.FoundIsSure.{sure_from}
use Rattle.crib_search.proofs.NoTreeNoPlan.{none_is_found, sure_serves}

pub sure_law : SureLaw
sure_law problem plan setup (None, finds, e) = absurd cc
sure_law problem plan setup (Some tree, finds, e) =
    let same : plan ≡ plan_of_tree tree = cc in rw same
    (sure_from problem setup problem.version problem.played setup (λ dealt deal. deal) (plan_of_tree tree) tree
    (30, finds_of_tree problem (Some tree) finds) (plan_stands tree))

pub none_law : NoneLaw
none_law problem setup (None, finds, e) winnable =
    none_is_found problem setup winnable.plan problem (λ history begun. begun) (sure_serves problem setup winnable.plan winnable.sure) 30
    (played_led problem setup) (finds_of_tree problem None finds)
none_law problem setup (Some tree, finds, e) winnable = cc
