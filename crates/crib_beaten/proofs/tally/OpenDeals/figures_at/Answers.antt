use Rattle.crib_beaten.proofs.TallyRows.{counted_by}
use Rattle.crib_beaten.proofs.tally.OpenDeals.figures_at.Goals as goal

pub returns-clause-exact : goal.returns-clause-exact
returns-clause-exact c = λ problem plan setup same decides.
    counted_by setup decides (rw same at c.count-counted.ensures.open) (rw same at c.count-counted.ensures.missing)
