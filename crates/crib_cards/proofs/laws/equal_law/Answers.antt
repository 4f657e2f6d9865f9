use Rattle.crib_cards.proofs.Equality.{same_sets, same_counts}
use Rattle.crib_cards.proofs.laws.equal_law.Goals as goal

pub returns : goal.returns
returns c = record { sets = same_sets; counts = same_counts }
