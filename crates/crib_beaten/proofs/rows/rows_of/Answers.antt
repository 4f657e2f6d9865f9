use Rattle.std.proofs.Common.{[]}
use Rattle.crib_beaten.proofs.RowFigures.{beaten_whole, figures_exact}
use Rattle.crib_beaten.proofs.rows.rows_of.Goals as goal

pub best_rows-requires : goal.best_rows-requires
best_rows-requires g c = rw c.as_slice-tallied.ensures.value (beaten_whole c.args.problem.now c.requires.0 c.args.tally.now c.requires.1)

pub returns-clause-exact : goal.returns-clause-exact
returns-clause-exact g c plan is =
    figures_exact c.args.problem.now plan c.args.tally.now is [] c.best_rows.result.rows.items c.best_rows.result.others
    (rw (← c.as_slice-tallied.ensures.value) c.best_rows.ensures.sums)
