use Rattle.crib_next.proofs.NextLaws.{card_law, sure_law}
use Rattle.crib_next.proofs.laws.next_law.Goals as goal

pub returns : goal.returns
returns c = record { sure = sure_law; card = card_law }
