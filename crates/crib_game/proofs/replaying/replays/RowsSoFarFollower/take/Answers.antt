use Rattle.std.proofs.Common.{◌∙◌, arith}
use Rattle.crib_problem.specs.Setup.{start_of}
use Rattle.crib_game.proofs.Reports.{rows_more, rows_so_far}
use Rattle.crib_game.proofs.replaying.replays.RowsSoFarFollower.take.Goals as goal

pub push-requires : goal.push-requires
push-requires c =
    let rows = rows_so_far (start_of c.requires.1) c.requires.2 c.args.self.now.rows.items c.requires.3 in
    let few = c.requires.4 in
    (omega arith, omega (arith, rows, few))

pub returns : goal.returns
returns c first problem before so_far next =
    let row = next.row_is in
    c.push.ensures.items
    ∙ rows_more (start_of problem) c.args.act.now before c.args.self.now.rows.items _ so_far
    (λ i. record { act = c.args.act.now; count = (row i).count; points = (row i).points; scores = (row i).scores })
