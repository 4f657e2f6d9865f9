use Rattle.crib_run.proofs.Printing.{as_text}
use Rattle.crib_sheet.proofs.LeadsLines.{begins_with}
use Rattle.crib_sheet.proofs.leads.put_begins.Goals as goal

pub returns-in-len1-up : goal.returns-in-len1-up
returns-in-len1-up g c =
    as_text c.put_first.ensures (begins_with c.args.nodes.now c.first-item.result _ c.in-len1-up.len_at_least c.first-item.is)
