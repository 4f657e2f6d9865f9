use Rattle.std.proofs.Common.{refl}
use Rattle.crib_search.proofs.FoundAfterTurns.{ok_map}
use Rattle.crib_why.proofs.BySuit.{none_after, sure_both}
use Rattle.crib_why.proofs.suits.is_sure_after.Goals as goal

pub returns-in-Ok : goal.returns-in-Ok
returns-in-Ok g c =
    ok_map c.is_winnable.result _ _ (λ is both. sure_both c.args.problem.now c.in-Ok.longer c.args.card is c.in-Ok.ensures.exact.1 c.in-Ok.ensures.setup both)
    c.is_winnable.ensures

pub returns-in-Err : goal.returns-in-Err
returns-in-Err g c = (λ is setup. absurd (none_after c.args.problem.now c.args.card _ c.in-Err.ensures.exact setup), λ is. refl)
