use Rattle.std.proofs.Common.{◌≡◌, refl}
use Rattle.crib_run.proofs.Printing.{more}
use Rattle.crib_plan_sheet.specs.PlanPage.{end_of_row, plan_page}
use Rattle.crib_plan_sheet.proofs.PutRows.{put_page}
use Rattle.crib_plan_sheet.proofs.page.put_plan.Goals as goal
use Rattle.crib_plan_sheet.proofs.page.put_plan.Goals.{then-sure, else-sure}

pub returns : goal.returns
unfolding plan_page
returns g c =
    let end : c.if-sure.put.now ≡ end_of_row c.args.sure =
    elim c.if-sure.branch [
      | then-sure w ↦ rw (w.put-is, w.if-sure.true) refl
      | else-sure w ↦ rw (w.put-is, w.if-sure.false) refl
    ]
    in
    more (rw c.begins_long.ensures at c.put_long.ensures)
    (put_page c.args.sure c.args.outline.now c.args.plan.now c.if-sure.put.now end
    c.put_first.ensures c.put_paragraphs.ensures c.put.ensures c.put-2.ensures)
