use Rattle.std.proofs.Common.{rules, length, sym, ◌∙◌, arith}
use Rattle.crib_plan.specs.declared.plan.Node.TheVariants.{Play, See}
use Rattle.crib_run.proofs.Printing.{so_far_none}
use Rattle.crib_plan_sheet.proofs.PutRows.{seen, node_seen, deep_later, room_later}
use Rattle.crib_plan_sheet.proofs.PutRows.{put_end, put_apart, put_whole, put_play, put_look, put_line, put_none, put_all}
use Rattle.crib_plan_sheet.proofs.rows.Walk.+row.Goals as goal
use Rattle.crib_plan_sheet.proofs.rows.Walk.+row.Goals.{put_lines-in-Some, put_lines-in_default}

-- ---- a place
pub put_row-returns-in-End : goal.put_row-returns-in-End
put_row-returns-in-End g t c = put_end c.args.self.now.outline.now c.args.self.now.plan.now c.args.level c.args.place c.in-End.is c.put.ensures

pub put_row-returns-then-is_apart : goal.put_row-returns-then-is_apart
put_row-returns-then-is_apart g t c =
    put_apart c.args.self.now.outline.now c.args.self.now.plan.now c.args.level c.in-To.node c.args.place c.in-To.is
    (sym c.is_apart.ensures ∙ c.if-is_apart.true) c.put-then-is_apart.ensures c.put_number.ensures c.put-then-is_apart-2.ensures

pub put_row-returns-else-is_apart : goal.put_row-returns-else-is_apart
put_row-returns-else-is_apart g t c =
    put_whole c.args.self.now.outline.now c.args.self.now.plan.now c.args.level c.in-To.node c.args.place c.in-To.is
    (sym c.is_apart.ensures ∙ c.if-is_apart.false) c.put_node.ensures

-- ---- a node
pub put_node-before_rest-requires : goal.put_node-before_rest-requires
put_node-before_rest-requires g t c =
    let here = node_seen c.args.self.now.plan.now c.nodes.result.now c.args.node c.index-nodes-node.result (Play c.in-Play.card c.in-Play.next)
    c.nodes.ensures.nodes c.index-nodes-node.is c.in-Play.is c.nodes.ensures.sound c.requires.1 in
    deep_later 0 c.args.node (length c.args.self.now.plan.now) c.in-Play.next (omega arith) here.1

pub put_node-put_row-requires : goal.put_node-put_row-requires
put_node-put_row-requires g t c κs within =
    let here = node_seen c.args.self.now.plan.now c.nodes.result.now c.args.node c.index-nodes-node.result (Play c.in-Play.card c.in-Play.next)
    c.nodes.ensures.nodes c.index-nodes-node.is c.in-Play.is c.nodes.ensures.sound c.requires.1 in
    let count = length c.args.self.now.plan.now in
    let deep = deep_later c.args.level c.args.node count c.in-Play.next (omega (arith, c.requires.0)) here.1 in
    let left = room_later c.args.node count c.in-Play.next c.requires.1 here.1 in
    search (rules, deep, left)

pub put_node-returns-in-Play : goal.put_node-returns-in-Play
put_node-returns-in-Play g t c =
    put_play c.args.self.now.outline.now c.args.self.now.plan.now c.args.level c.args.node c.in-Play.card c.in-Play.next c.index-nodes-node.result
    c.nodes.ensures.sound c.requires.1
    (seen c.args.self.now.plan.now c.nodes.result.now c.args.node c.index-nodes-node.result (Play c.in-Play.card c.in-Play.next)
    c.nodes.ensures.nodes c.index-nodes-node.is c.in-Play.is)
    c.card_text.ensures.text c.before_rest.ensures.text c.put.ensures c.put-in-Play.ensures c.put_row.ensures

pub put_node-put_lines-requires : goal.put_node-put_lines-requires
put_node-put_lines-requires g t c κs within =
    let here = node_seen c.args.self.now.plan.now c.nodes.result.now c.args.node c.index-nodes-node.result (See c.in-See.next)
    c.nodes.ensures.nodes c.index-nodes-node.is c.in-See.is c.nodes.ensures.sound c.requires.1 in
    search (rules, c.requires.0, c.requires.1, here)

pub put_node-returns-in-See : goal.put_node-returns-in-See
put_node-returns-in-See g t c =
    put_look c.args.self.now.outline.now c.args.self.now.plan.now c.args.level c.args.node c.in-See.next c.index-nodes-node.result
    c.nodes.ensures.sound c.requires.1
    (seen c.args.self.now.plan.now c.nodes.result.now c.args.node c.index-nodes-node.result (See c.in-See.next)
    c.nodes.ensures.nodes c.index-nodes-node.is c.in-See.is)
    c.put-in-See.ensures c.put_lines.ensures

-- ---- the lines of a look
pub put_lines-loop-index-init : goal.put_lines-loop-index-init
put_lines-loop-index-init g t c = so_far_none _ _

pub put_lines-loop-index-preserved : goal.put_lines-loop-index-preserved
put_lines-loop-index-preserved g t c =
    elim c.match-new_node.branch [
      | put_lines-in-Some w ↦
          rw w.page-is (put_line c.args.self.now.outline.now c.args.self.now.plan.now c.args.level c.width_of-width.result c.args.branches.now
          c.loop-index.index w.in-Some.node _ w.letters_to.result c.told-branches c.loop-index-test.true (sym c.new_node.ensures ∙ w.in-Some.is)
          c.width_of-width.ensures.width w.letters_to.ensures c.loop-index.invariant w.put_front.ensures w.put_row.ensures)
      | put_lines-in_default w ↦
          rw w.page-is (put_none c.args.self.now.outline.now c.args.self.now.plan.now c.args.level c.args.branches.now c.loop-index.index _
          c.told-branches c.loop-index-test.true (sym c.new_node.ensures ∙ w.in_default.is) c.loop-index.invariant)
    ]

pub put_lines-returns : goal.put_lines-returns
put_lines-returns g t c =
    put_all c.args.self.now.outline.now c.args.self.now.plan.now c.args.level c.args.branches.now c.loop-index.index
    c.told-branches (omega (arith, c.loop-index-test.false)) c.loop-index.invariant
