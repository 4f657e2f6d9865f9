use Rattle.crib_show.proofs.RunLemmas.{Walks}
use Rattle.crib_show.proofs.show.points.run_points.Given as goal

abbrev pub invariant-loop-count : goal.invariant-loop-count
invariant-loop-count l = Walks l.counts l.count-index l.points l.length l.forms
