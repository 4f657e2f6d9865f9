use Rattle.crib_beaten.proofs.DemandsAfterOpening.{beats_open}
use Rattle.crib_beaten.proofs.UnbeatenPlans.{sure_from, sure_unbeaten}
use Rattle.crib_beaten.proofs.laws.beaten_law.Goals as goal

pub returns : goal.returns
returns c = record {
  sure = λ problem plan setup. (λ sure dealt order beats. sure_unbeaten problem plan setup sure dealt beats, sure_from problem plan setup);
  agrees = beats_open;
}
