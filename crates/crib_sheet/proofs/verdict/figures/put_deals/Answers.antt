use Rattle.std.proofs.Common.{rules}
use Rattle.crib_run.proofs.Printing.{as_text, more}
use Rattle.crib_sheet.proofs.verdict.figures.put_deals.Goals as goal

pub returns : goal.returns
returns g c = as_text (more (more c.put_grouped.ensures c.put.ensures) c.put-2.ensures) (rw c.deals_word.ensures.value (search rules))
