use Rattle.std.proofs.Common.{◌∙◌, sym}
use Rattle.crib_run.proofs.Printing.{as_text, more, nothing}
use Rattle.crib_sheet.proofs.LeadsLines.{little_if}
use Rattle.crib_sheet.proofs.leads.put_little.Goals as goal

pub returns-then-are_mostly_beaten : goal.returns-then-are_mostly_beaten
returns-then-are_mostly_beaten g c =
    as_text (more c.put.ensures c.put_best.ensures)
    (little_if c.args.leads.now c.args.stops.now _ c.in-len2-up.len_at_least (sym c.are_mostly_beaten.ensures ∙ c.if-are_mostly_beaten.true))

pub returns-else-are_mostly_beaten : goal.returns-else-are_mostly_beaten
returns-else-are_mostly_beaten g c =
    as_text (nothing _)
    (little_if c.args.leads.now c.args.stops.now _ c.in-len2-up.len_at_least (sym c.are_mostly_beaten.ensures ∙ c.if-are_mostly_beaten.false))
