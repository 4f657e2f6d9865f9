use Rattle.crib_search.proofs.FoundAfterTurns.{ok_map}
use Rattle.crib_tables.proofs.SureTurns.{going}
use Rattle.crib_tables.proofs.sure.is_sure_turn.Goals as goal

pub returns-in-Ok : goal.returns-in-Ok
returns-in-Ok g c =
    ok_map c.is_winnable.result _ _
    (λ sure is. going c.args.problem.now c.args.act.now sure c.in-Ok.next c.in-Ok.ensures.exact.0 c.in-Ok.ensures.exact.1 is) c.is_winnable.ensures
