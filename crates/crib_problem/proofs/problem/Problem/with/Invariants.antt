use Rattle.std.proofs.Common.{◌≡◌, take}
use Rattle.crib_problem.specs.declared.problem.Version.TheVariants.{Two}
use Rattle.crib_problem.specs.Setup.{IsSetup}
use Rattle.crib_problem.proofs.problem.Problem.with.Given as goal

abbrev pub invariant-loop-act : goal.invariant-loop-act
invariant-loop-act l = record {
  same : l.problem ≡ record (l.self) { version = Two; scores = l.fn.scores; goal = l.fn.goal; played = take l.act-index l.acts };
  setup : IsSetup l.problem;
}
