use Rattle.std.proofs.Common.{true, false, arith}
use Rattle.crib_plan_sheet.proofs.PutRows.{put_none_first, put_some_first}
use Rattle.crib_plan_sheet.proofs.page.put_first.Goals as goal

pub returns-then-nodes-ne0 : goal.returns-then-nodes-ne0
returns-then-nodes-ne0 g c =
    put_some_first c.args.sure c.args.walk.now.outline.now c.args.walk.now.plan.now c.nodes.result.now c.nodes.ensures.nodes (omega arith) c.put_row.ensures

pub returns-then-sure : goal.returns-then-sure
returns-then-sure g c =
    put_none_first c.args.sure true c.args.walk.now.outline.now c.args.walk.now.plan.now c.nodes.result.now c.nodes.ensures.nodes (omega arith)
    c.if-sure.true c.put.ensures

pub returns-else-sure : goal.returns-else-sure
returns-else-sure g c =
    put_none_first c.args.sure false c.args.walk.now.outline.now c.args.walk.now.plan.now c.nodes.result.now c.nodes.ensures.nodes (omega arith)
    c.if-sure.false c.put-else-sure.ensures
