use Rattle.crib_run.proofs.Printing.{as_text, more}
use Rattle.crib_sheet.proofs.LeadsLines.{theirs_headed}
use Rattle.crib_sheet.proofs.leads.put_all_theirs.Goals as goal

pub returns-in-len1-up : goal.returns-in-len1-up
returns-in-len1-up g c = as_text (more c.put.ensures c.put_theirs.ensures) (theirs_headed c.args.leads.now c.in-len1-up.len_at_least)
