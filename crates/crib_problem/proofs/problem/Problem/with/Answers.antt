use Rattle.std.proofs.Common.{reverse}
use Rattle.crib_problem.specs.declared.problem.Version.TheVariants.{Two}
use Rattle.crib_problem.specs.Played.{AreAllowed}
use Rattle.crib_problem.specs.Setup.{Setup, opening_basis_of}
use Rattle.crib_problem.proofs.MadeProblems.{not_refused_here}
use Rattle.crib_problem.proofs.problem.Problem.with.Goals as goal

pub returns-in_default-after-clause-valid : goal.returns-in_default-after-clause-valid
returns-in_default-after-clause-valid c = λ is.
    let target : Setup = record (c.args.self.now) { version = Two; scores = c.args.scores; goal = c.args.goal } in
    let acts = c.played-acts.result.now in
    let allowed : AreAllowed (opening_basis_of target) (reverse acts) = rw c.played-acts.ensures.value is.allowed in
    absurd (not_refused_here target c.loop-act.problem acts c.loop-act.act-index c.act-item.result _ c.loop-act-test.true c.act-item.is
    c.loop-act.invariant.same allowed c.in_default-after.ensures.exact)
