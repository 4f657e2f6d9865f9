use Rattle.std.proofs.Common.{rules}
use Rattle.crib_run.proofs.Printing.{as_text, more}
use Rattle.crib_sheet.specs.LeadsText.{tried_text}
use Rattle.crib_sheet.proofs.leads.put_below.Goals as goal

pub returns-in-Some : goal.returns-in-Some
unfolding tried_text
returns-in-Some g c =
    rw c.in-Some.is (as_text (more (more (more c.put.ensures c.put_begins.ensures) c.put-in-Some.ensures) c.put_beating.ensures)
    (rw c.nodes.ensures.nodes (search rules)))
