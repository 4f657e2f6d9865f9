use Rattle.crib_know.proofs.HonestOpenings.{allowed_proved}
use Rattle.crib_know.proofs.laws.honest_law.Goals as goal

pub returns : goal.returns
returns c = record { allowed = allowed_proved }
