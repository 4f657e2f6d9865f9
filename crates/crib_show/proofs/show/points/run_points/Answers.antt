use Rattle.std.proofs.Common.{◌+◌, ◌*◌, ◌≤◌, get_or, ap, ◌∙◌, arith}
use Rattle.crib_show.proofs.RunLemmas.{Walks-closed, Walks-prolonged, Walks-forms, Walks-product, Walks-same, count-le}
use Rattle.std.proofs.Math.Nat.{mul-le-mul}
use Rattle.crib_show.proofs.show.points.run_points.Goals.{then-count-eq0, else-count-eq0}
use Rattle.crib_show.proofs.show.points.run_points.Goals as goal

pub stretch_points-points-requires : goal.stretch_points-points-requires
stretch_points-points-requires c =
    omega (arith, Walks-product _ _ _ _ _ c.loop-count.invariant c.requires.few)

pub stretch_points-requires : goal.stretch_points-requires
stretch_points-requires c = omega (arith, Walks-product _ _ _ _ _ c.loop-count.invariant c.requires.few)

pub overflow_mul-forms : goal.overflow_mul-forms
overflow_mul-forms c =
    let forms = Walks-forms _ _ _ _ _ c.loop-count.invariant c.requires.few in
    let count : get_or c.args.counts.now c.loop-count.count-index 0 ≤ 5 =
    count-le c.args.counts.now c.requires.few c.loop-count.count-index 0 c.loop-count-test.true in
    let product : c.loop-count.forms * get_or c.args.counts.now c.loop-count.count-index 0 ≤ 32 * 5 = mul-le-mul forms count in
    omega (arith, product)

pub loop-count-preserved : goal.loop-count-preserved
loop-count-preserved c =
    elim c.if-count-eq0.branch [
      | then-count-eq0 w ↦
          Walks-same _ _ _ _ _ _ _ _ (Walks-closed _ _ _ _ _ c.loop-count.invariant c.loop-count-test.true w.if-count-eq0.true)
          (w.points-is ∙ ap (λ n. c.loop-count.points + n) w.stretch_points-points.ensures) w.length-is w.forms-is
      | else-count-eq0 w ↦
          Walks-same _ _ _ _ _ _ _ _
          (Walks-prolonged _ _ _ _ _ c.loop-count.invariant c.loop-count-test.true (omega (arith, w.if-count-eq0.false)))
          w.points-is w.length-is w.forms-is
    ]
