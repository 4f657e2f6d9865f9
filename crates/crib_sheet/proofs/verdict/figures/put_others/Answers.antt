use Rattle.crib_run.proofs.Printing.{nothing}
use Rattle.crib_sheet.proofs.PlanBeatenLines.{others_listed}
use Rattle.crib_sheet.proofs.verdict.figures.put_others.Goals as goal

pub returns-then-others-ne0 : goal.returns-then-others-ne0
returns-then-others-ne0 g c = rw (others_listed _ c.if-others-ne0.true) c.put_line.ensures

pub returns-else-others-ne0 : goal.returns-else-others-ne0
returns-else-others-ne0 g c = rw c.if-others-ne0.false (nothing _)
