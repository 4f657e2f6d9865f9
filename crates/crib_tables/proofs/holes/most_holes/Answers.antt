use Rattle.std.proofs.Common.{arith, refl}
use Rattle.crib_tables.specs.Holes.{AreSureBy}
use Rattle.crib_tables.specs.Private.Next.{IsSureNext}
use Rattle.crib_tables.proofs.SureHoles.{found, none_above_all, not_these, one_less, pegged_are, score_range, these}
use Rattle.crib_tables.proofs.holes.most_holes.Goals as goal

pub overflow_sub-holes : goal.overflow_sub-holes
overflow_sub-holes g c =
    let range = score_range c.args.problem.now c.scores-score.result c.args.pegged c.requires.setup c.scores-score.ensures c.requires.pegged in
    omega (arith, range.0)

pub overflow_sub-holes-in-loop-holes : goal.overflow_sub-holes-in-loop-holes
overflow_sub-holes-in-loop-holes g c =
    let range = score_range c.args.problem.now c.scores-score.result c.args.pegged c.requires.setup c.scores-score.ensures c.requires.pegged in
    omega (arith, range.1, c.loop-holes-test.true)

pub loop-holes-init : goal.loop-holes-init
loop-holes-init g c =
    let range = score_range c.args.problem.now c.scores-score.result c.args.pegged c.requires.setup c.scores-score.ensures c.requires.pegged in
    none_above_all (AreSureBy (IsSureNext c.args.next.now) c.args.problem.now) c.scores-score.result.owner c.args.pegged _ refl range.0 range.2

pub loop-holes-smaller : goal.loop-holes-smaller
loop-holes-smaller g c =
    let range = score_range c.args.problem.now c.scores-score.result c.args.pegged c.requires.setup c.scores-score.ensures c.requires.pegged in
    omega (arith, range.1, c.loop-holes-test.true)

pub loop-holes-preserved : goal.loop-holes-preserved
loop-holes-preserved g c =
    let range = score_range c.args.problem.now c.scores-score.result c.args.pegged c.requires.setup c.scores-score.ensures c.requires.pegged in
    one_less (AreSureBy (IsSureNext c.args.next.now) c.args.problem.now)
    c.scores-score.result.owner c.args.pegged c.loop-holes.holes _ (omega (arith, range.1, c.loop-holes-test.true))
    c.loop-holes.invariant (omega (arith, c.loop-holes-test.true))
    (not_these (IsSureNext c.args.next.now) c.args.problem.now c.scores-score.result c.args.pegged c.loop-holes.holes c.scores-score.ensures
    c.requires.pegged c.in_ok-are_sure.field-0 c.in_ok-are_sure.ensures (omega (arith, c.loop-holes-test.true)) c.if-branch.false)

pub returns-then-branch : goal.returns-then-branch
returns-then-branch g c =
    found (AreSureBy (IsSureNext c.args.next.now) c.args.problem.now)
    c.args.problem.now c.scores-score.result c.args.pegged c.loop-holes.holes c.scores-score.ensures c.loop-holes.invariant
    (these (IsSureNext c.args.next.now) c.args.problem.now c.scores-score.result c.args.pegged c.loop-holes.holes c.scores-score.ensures
    c.requires.pegged c.in_ok-are_sure.field-0 c.in_ok-are_sure.ensures c.if-branch.true)

pub returns : goal.returns
returns g c =
    found (AreSureBy (IsSureNext c.args.next.now) c.args.problem.now)
    c.args.problem.now c.scores-score.result c.args.pegged c.loop-holes.holes c.scores-score.ensures c.loop-holes.invariant
    (pegged_are (IsSureNext c.args.next.now) c.args.problem.now c.scores-score.result c.args.pegged c.loop-holes.holes c.scores-score.ensures
    c.requires.pegged (omega (arith, c.loop-holes-test.false)))
