use Rattle.crib_run.proofs.Printing.{as_text, more}
use Rattle.crib_sheet.proofs.LeadsLines.{own_alone, own_beside}
use Rattle.crib_sheet.proofs.leads.+put_own.Goals as goal

pub returns-in-empty-stops : goal.returns-in-empty-stops
returns-in-empty-stops g t c =
    as_text (more c.put_own_line.ensures c.put_own.ensures)
    (own_alone c.args.leads.now c.args.stops.now c.lead-item.result _ c.in-len1-up.len_at_least c.in-empty-stops.len_below c.lead-item.is)

pub returns-in-len1-up-stops : goal.returns-in-len1-up-stops
returns-in-len1-up-stops g t c =
    as_text (more c.put_own_line-in-len1-up-stops.ensures c.put_own-in-len1-up-stops.ensures)
    (own_beside c.args.leads.now c.args.stops.now c.lead-item.result c.stop-item.result _ _ c.in-len1-up.len_at_least
    c.in-len1-up-stops.len_at_least c.lead-item.is c.stop-item.is)
