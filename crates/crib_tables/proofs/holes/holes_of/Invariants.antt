use Rattle.crib_tables.proofs.SureHoles.{AreSoFar}
use Rattle.crib_tables.proofs.holes.holes_of.Given as goal

-- there are the holes of each turn so far that may come next
abbrev pub invariant-loop-act : goal.invariant-loop-act
invariant-loop-act g l = AreSoFar l.problem l.act-items l.turns.items l.act-index
