use Rattle.crib_tables.specs.Holes.{AreSureBy}
use Rattle.crib_tables.specs.Private.Next.{IsSureNext}
use Rattle.crib_tables.proofs.SureHoles.{NoneAbove}
use Rattle.crib_tables.proofs.holes.most_holes.Given as goal

abbrev pub invariant-loop-holes : goal.invariant-loop-holes
invariant-loop-holes g l = NoneAbove (AreSureBy (IsSureNext l.next) l.problem) l.score l.pegged l.holes

abbrev pub decreases-loop-holes : goal.decreases-loop-holes
decreases-loop-holes g l = l.holes
