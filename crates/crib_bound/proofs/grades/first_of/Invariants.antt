use Rattle.std.proofs.Common.{◌≡◌, leb}
use Rattle.crib_cards.specs.declared.sides.Dealt.{Dealt}
use Rattle.crib_problem.specs.Setup.{Setup}
use Rattle.crib_sure.specs.Shows.{meets}
use Rattle.crib_bound.specs.Private.Walks.{grade_of}
use Rattle.crib_bound.proofs.grades.first_of.Given as goal

abbrev pub invariant-loop-index : goal.invariant-loop-index
invariant-loop-index l = (problem : Setup) (dealt : Dealt) → meets problem l.first dealt ≡ leb l.index (grade_of problem l.ladder dealt)
