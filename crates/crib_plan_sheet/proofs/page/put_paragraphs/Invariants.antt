use Rattle.crib_run.proofs.Printing.{SoFar}
use Rattle.crib_plan_sheet.specs.Private.Pages.{paragraphs_text}
use Rattle.crib_plan_sheet.proofs.page.put_paragraphs.Given as goal

abbrev pub invariant-loop-number : goal.invariant-loop-number
invariant-loop-number g l =
    SoFar (paragraphs_text l.walk.outline.now l.walk.plan.now l.number) (paragraphs_text l.walk.outline.now l.walk.plan.now 0)
    (g.P.Page.stand l.initial.page) (g.P.Page.stand l.page)
