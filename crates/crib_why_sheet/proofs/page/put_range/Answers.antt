use Rattle.std.proofs.Common.{rules}
use Rattle.crib_run.proofs.Printing.{as_text, more}
use Rattle.crib_why_sheet.proofs.page.put_range.Goals as goal

pub returns-then-least-most : goal.returns-then-least-most
returns-then-least-most g c = as_text (more (more c.put_small.ensures c.put.ensures) c.put_small-then-least-most.ensures) (search rules)
