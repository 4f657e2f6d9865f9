use Rattle.std.proofs.Common.{◌∙◌, sym}
use Rattle.crib_run.proofs.Printing.{as_text, more}
use Rattle.crib_sheet.proofs.LeadsLines.{best_named}
use Rattle.crib_sheet.proofs.leads.put_best.Goals as goal

pub returns-then-is_worse : goal.returns-then-is_worse
returns-then-is_worse g c =
    as_text (more (more c.put.ensures c.put_move.ensures) c.put-then-is_worse.ensures)
    (best_named c.args.stops.now c.stop-item.result c.best_of-best.result _ c.in-len1-up.len_at_least c.stop-item.is c.best_of-best.ensures
    (sym c.is_worse.ensures ∙ c.if-is_worse.true))
