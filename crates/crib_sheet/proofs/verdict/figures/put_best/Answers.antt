use Rattle.std.proofs.Common.{rules}
use Rattle.crib_run.proofs.Printing.{as_text, more}
use Rattle.crib_sheet.specs.PlanBeaten.{best_text}
use Rattle.crib_sheet.proofs.verdict.figures.put_best.Goals as goal

pub returns-then-beaten-best : goal.returns-then-beaten-best
unfolding best_text
returns-then-beaten-best g c = as_text c.put.ensures (search rules)

pub returns-else-beaten-best : goal.returns-else-beaten-best
unfolding best_text
returns-else-beaten-best g c = as_text (more c.put_found.ensures c.put_least.ensures) (search rules)
