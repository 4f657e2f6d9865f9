use Rattle.crib_bound.proofs.Taken.{given_lowered}
use Rattle.crib_bound.proofs.walk.Bound.settle.Goals as goal

pub returns-clause-less : goal.returns-clause-less
returns-clause-less g c = λ place most inside low also.
    let one = c.give_back-lost.ensures.less place most low also in
    c.join-2.ensures.less place most inside one (c.give_back-also.ensures.less place most also one)

pub returns-clause-kept : goal.returns-clause-kept
returns-clause-kept g c = λ amounts long.
    given_lowered (c.give_back-lost.ensures.back amounts long) c.give_back-lost.ensures.few (c.join-2.ensures.kept amounts long)

pub returns-clause-left : goal.returns-clause-left
returns-clause-left g c = λ amounts long.
    given_lowered (c.give_back-also.ensures.back amounts long) c.give_back-also.ensures.few (c.join-2.ensures.left amounts long)
