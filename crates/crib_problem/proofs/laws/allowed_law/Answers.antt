use Rattle.crib_problem.proofs.OpeningLawProofs.{asked_holds_proved, low_fits_proved, honest_proved, may_begin_proved}
use Rattle.crib_problem.proofs.laws.allowed_law.Goals as goal

pub returns : goal.returns
returns c = record { holds = asked_holds_proved; low = low_fits_proved; honest = honest_proved; begins = may_begin_proved }
