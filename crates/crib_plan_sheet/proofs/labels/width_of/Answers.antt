use Rattle.std.proofs.Common.{◌≡◌, ◌<◌, ◌∙◌, length, map, max, ap, arith, rules, sym}
use Rattle.crib_plan.specs.Spelling.{leads_to}
use Rattle.crib_plan_sheet.specs.PlanText.{label}
use Rattle.crib_plan_sheet.proofs.LabelPieces.{wider, width_none, width_end}
use Rattle.crib_plan_sheet.proofs.labels.width_of.Goals as goal
use Rattle.crib_plan_sheet.proofs.labels.width_of.Goals.{in-Some, in_default}

pub loop-index-preserved : goal.loop-index-preserved
loop-index-preserved c =
    let all = c.args.branches.now in
    let inside : c.loop-index.index < length all = omega (arith, c.told-branches, c.loop-index-test.true) in
    elim c.match-new_node.branch [
      | in-Some w ↦
          (let size : w.len.result ≡ length (label (map (leads_to w.in-Some.node) all)) =
          w.len.ensures.value ∙ w.label_of.ensures.len ∙ ap length (w.label_of.ensures.items ∙ ap label w.letters_to.ensures)
          in
          let greatest : w.max-width.result ≡ max c.loop-index.width w.len.result = search rules in
          rw w.width-is (record {
            width = wider all c.loop-index.index w.in-Some.node c.loop-index.width w.max-width.result w.len.result _ inside
                (sym c.new_node.ensures ∙ w.in-Some.is) size greatest c.loop-index.invariant.width;
            narrow = omega (arith, greatest, c.loop-index.invariant.narrow, w.len.ensures.value, w.len.ensures.fits);
          }))
      | in_default w ↦ rw w.width-is (record {
        width = rw (width_none all c.loop-index.index _ inside (sym c.new_node.ensures ∙ w.in_default.is)) at c.loop-index.invariant.width;
        narrow = c.loop-index.invariant.narrow;
      })
    ]

pub returns-clause-width : goal.returns-clause-width
returns-clause-width c =
    omega (arith, width_end c.args.branches.now c.loop-index.index (omega arith), c.loop-index.invariant.width)
