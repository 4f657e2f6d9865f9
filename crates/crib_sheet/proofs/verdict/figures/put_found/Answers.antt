use Rattle.std.proofs.Common.{rules}
use Rattle.crib_run.proofs.Printing.{as_text, more}
use Rattle.crib_sheet.proofs.verdict.figures.put_found.Goals as goal

pub returns-in-Some : goal.returns-in-Some
returns-in-Some g c = as_text (more c.put-in-Some.ensures c.put_deals.ensures) (search rules)

pub returns-in-Some-eq0 : goal.returns-in-Some-eq0
returns-in-Some-eq0 g c = as_text c.put.ensures (search rules)
