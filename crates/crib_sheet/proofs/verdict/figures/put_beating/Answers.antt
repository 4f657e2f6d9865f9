use Rattle.std.proofs.Common.{rules}
use Rattle.crib_run.proofs.Printing.{as_text, more}
use Rattle.crib_sheet.specs.PlanBeaten.{beating_text}
use Rattle.crib_sheet.proofs.verdict.figures.put_beating.Goals as goal

pub returns : goal.returns
unfolding beating_text
returns g c =
    as_text (more (more (more (more (more (more (more c.put.ensures c.put_grouped.ensures) c.put-2.ensures) c.put_grouped-2.ensures) c.put-3.ensures)
    c.put_grouped-3.ensures) c.put-4.ensures) c.put_hands.ensures) (rw c.saturating_sub.ensures (search rules))
