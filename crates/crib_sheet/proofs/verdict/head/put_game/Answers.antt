use Rattle.std.proofs.Common.{Result, ap}
use Rattle.crib_game.specs.declared.fault.GameFault.{GameFault}
use Rattle.crib_game.specs.declared.replaying.report.Report.{Report}
use Rattle.crib_run.proofs.Printing.{as_text, more}
use Rattle.crib_sheet.specs.PlanHead.{game_lines}
use Rattle.crib_sheet.proofs.verdict.head.put_game.Goals as goal

pub returns-in-Ok : goal.returns-in-Ok
returns-in-Ok g c =
    as_text (more c.put.ensures c.put_played.ensures)
    (ap (λ (replayed : Result Report GameFault). game_lines c.args.problem.now c.args.game.now replayed) c.in-Ok.ensures.exact)
