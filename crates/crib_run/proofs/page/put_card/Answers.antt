use Rattle.std.proofs.Common.{rules}
use Rattle.crib_run.proofs.Printing.{as_text, more}
use Rattle.crib_run.proofs.page.put_card.Goals as goal

pub returns : goal.returns
returns g c = as_text (more c.put.ensures c.put-2.ensures) (search rules)
