use Rattle.crib_search.proofs.FoundAfterTurns.{ok_map}
use Rattle.crib_tables.proofs.SureHoles.{as_goal}
use Rattle.crib_tables.specs.Private.Next.{IsSureNext}
use Rattle.crib_tables.proofs.holes.are_sure.Goals as goal

pub returns-in-Some : goal.returns-in-Some
returns-in-Some g c =
    ok_map c.is_sure_next.result _ _
    (λ sure is. as_goal (IsSureNext c.args.next.now) c.args.problem.now c.args.holes c.in-Some.problem sure c.in-Some.ensures.only.0
    c.in-Some.ensures.only.1 is)
    c.is_sure_next.ensures
