use Rattle.std.proofs.Common.{◌≡◌, ◌⊎◌, ◌+◌, ◌≤◌}
use Rattle.crib_show.specs.Private.Totals.{NoneScores}
use Rattle.crib_show.proofs.deals.WorstShow.most_points.Given as goal

abbrev pub invariant-loop-most : goal.invariant-loop-most
invariant-loop-most l = ((l.most ≡ l.bound) ⊎ NoneScores l.self l.aim l.suit_bonus (l.most + 1)) × (l.most ≤ l.bound)

abbrev pub decreases-loop-most : goal.decreases-loop-most
decreases-loop-most l = l.most
