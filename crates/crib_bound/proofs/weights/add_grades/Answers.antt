use Rattle.std.proofs.Common.{◌≡◌, ◌+◌, ◌*◌, ◌<◌, length, arith, rules}
use Rattle.crib_bound.proofs.GradeCounts.{all_added, none_added, one_added}
use Rattle.crib_bound.proofs.weights.add_grades.Goals as goal

pub loop-grade-init : goal.loop-grade-init
loop-grade-init c = none_added

pub loop-grade-preserved : goal.loop-grade-preserved
loop-grade-preserved c =
    let at = 16 * c.args.index + c.loop-grade.grade in
    let inside : at < length c.loop-grade.weights = search (rules, arith) in
    one_added c.impossible.result at (omega (arith, c.requires.index)) inside c.impossible.ensures c.missing_with-count.ensures.few
    c.missing_with-count.ensures.exact c.loop-grade.invariant

pub returns : goal.returns
returns c =
    let whole : c.loop-grade.grade ≡ 16 = omega (arith, c.loop-grade.auto.grade-end, c.loop-grade-test.false) in
    all_added c.told-ladder (rw whole at c.loop-grade.invariant)
