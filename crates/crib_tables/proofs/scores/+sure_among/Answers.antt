use Rattle.crib_tables.proofs.SureTurns.{none_first}
use Rattle.crib_tables.proofs.scores.+sure_among.Goals as goal

pub returns-else-is_sure-clause-right : goal.returns-else-is_sure-clause-right
returns-else-is_sure-clause-right g t c =
    none_first c.args.problem.now c.args.acts.now c.act-item.result _ c.in_ok-is_sure-in-len1-up.is_sure c.in-len1-up.len_at_least c.act-item.is
    c.in_ok-count-in-len1-up.ensures.right c.if-is_sure.false c.in_ok-is_sure-in-len1-up.ensures
