use Rattle.std.proofs.Common.{rules}
use Rattle.crib_run.proofs.Printing.{as_text, more}
use Rattle.crib_sheet.specs.LeadsText.{leads_text}
use Rattle.crib_sheet.proofs.leads.put_leads.Goals as goal

pub returns : goal.returns
unfolding leads_text
returns g c =
    as_text (more (more (more (more c.put_now.ensures c.put_own.ensures) c.put_little.ensures) c.put_all_theirs.ensures) c.put_below.ensures)
    (rw (c.as_slice.ensures.value, c.as_slice-2.ensures.value, c.as_slice-3.ensures.value, c.as_slice-4.ensures.value) (search rules))
