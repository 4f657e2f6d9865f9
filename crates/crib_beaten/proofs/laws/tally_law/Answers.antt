use Rattle.crib_beaten.proofs.TallyLaws.{none_is_sure, one_tally, rows_add_up}
use Rattle.crib_beaten.proofs.laws.tally_law.Goals as goal

pub returns : goal.returns
returns c = record { none = none_is_sure; one = one_tally; sums = rows_add_up }
