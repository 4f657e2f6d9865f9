use Rattle.std.proofs.Common.{rules}
use Rattle.crib_run.proofs.Printing.{as_text, more}
use Rattle.crib_sheet.specs.LeadsText.{their_line}
use Rattle.crib_sheet.proofs.leads.put_their_line.Goals as goal

pub returns : goal.returns
unfolding their_line
returns g c =
    as_text (more (more (more c.put_name.ensures c.put.ensures) c.put_short.ensures) c.put-2.ensures) (rw c.after_of.ensures (search rules))
