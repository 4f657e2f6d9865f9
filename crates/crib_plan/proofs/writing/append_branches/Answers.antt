use Rattle.std.proofs.Common.{◌∙◌, Some, None, append_assoc, length, sym, ap, arith}
use Rattle.std.proofs.lemmas.Grind.{common_steps}
use Rattle.crib_plan.proofs.WrittenIsSpelled.{branch_next}
use Rattle.crib_plan.proofs.writing.append_branches.Goals as goal
use Rattle.crib_plan.proofs.writing.append_branches.Goals.{in-Some, in_default}

pub append_branch-requires : goal.append_branch-requires
append_branch-requires g c =
    let new = branch_next c.args.nexts.now c.loop-index.index (Some c.in-Some.node) (omega arith) (sym c.new_node.ensures ∙ c.in-Some.is) in
    grind (arith, common_steps, ap length new)

pub loop-index-preserved : goal.loop-index-preserved
loop-index-preserved g c = elim c.match-new_node.branch [
  | in-Some w ↦
      let new = branch_next c.args.nexts.now c.loop-index.index (Some w.in-Some.node) (omega arith) (sym c.new_node.ensures ∙ w.in-Some.is) in
      rw w.text-is (grind (arith, common_steps, append_assoc, ap length new))
  | in_default w ↦
      let past = branch_next c.args.nexts.now c.loop-index.index None (omega arith) (sym c.new_node.ensures ∙ w.in_default.is) in
      rw (w.text-is, ← past) c.loop-index.invariant
]
