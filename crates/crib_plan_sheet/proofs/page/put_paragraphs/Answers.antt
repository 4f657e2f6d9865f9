use Rattle.std.proofs.Common.{◌∙◌, sym, arith}
use Rattle.crib_plan_sheet.proofs.PutRows as rows
use Rattle.crib_plan_sheet.proofs.page.put_paragraphs.Goals as goal
use Rattle.crib_plan_sheet.proofs.page.put_paragraphs.Goals.{then-is_apart, else-is_apart}

pub loop-number-preserved : goal.loop-number-preserved
loop-number-preserved g c =
    elim c.if-is_apart.branch [
      | then-is_apart w ↦
          rw w.page-is (rows.put_paragraph c.args.walk.now.outline.now c.args.walk.now.plan.now c.nodes-number-end.result.now c.loop-number.number
          c.nodes-number-end.ensures.nodes (omega (arith, c.loop-number-test.true)) (sym c.is_apart.ensures ∙ w.if-is_apart.true)
          c.loop-number.invariant w.put.ensures w.put_number.ensures w.put-then-is_apart.ensures w.put_node.ensures)
      | else-is_apart w ↦
          rw w.page-is (rows.put_no_paragraph c.args.walk.now.outline.now c.args.walk.now.plan.now c.nodes-number-end.result.now c.loop-number.number
          c.nodes-number-end.ensures.nodes (omega (arith, c.loop-number-test.true)) (sym c.is_apart.ensures ∙ w.if-is_apart.false)
          c.loop-number.invariant)
    ]

pub returns : goal.returns
returns g c =
    rows.put_paragraphs c.args.walk.now.outline.now c.args.walk.now.plan.now c.nodes-number-end.result.now c.loop-number.number
    c.nodes-number-end.ensures.nodes (omega (arith, c.loop-number-test.false)) c.loop-number.invariant
