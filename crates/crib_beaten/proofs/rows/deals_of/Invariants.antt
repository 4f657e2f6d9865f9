use Rattle.std.proofs.Common.{◌≡◌, take}
use Rattle.crib_beaten.specs.Terms.{meets_term}
use Rattle.crib_beaten.specs.Private.Figures.{beaten_where}
use Rattle.crib_beaten.proofs.rows.deals_of.Given as goal

abbrev pub invariant-loop-row : goal.invariant-loop-row
invariant-loop-row l = l.deals ≡ beaten_where (meets_term l.term) (take l.row-index l.left)
