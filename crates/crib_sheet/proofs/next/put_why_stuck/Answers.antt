use Rattle.std.proofs.Common.{rules}
use Rattle.crib_run.proofs.Printing.{as_text, more}
use Rattle.crib_sheet.proofs.next.put_why_stuck.Goals as goal

pub returns : goal.returns
returns g c = as_text (more c.put.ensures c.put_stuck.ensures) (search rules)
