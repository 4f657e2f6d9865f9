use Rattle.crib_know.proofs.OpeningLawProofs.{played_dealt, played_agrees}
use Rattle.crib_know.proofs.OpeningSuits.{suit_law}
use Rattle.crib_know.proofs.laws.opening_law.Goals as goal

pub returns : goal.returns
returns c = record { some_deal = λ problem setup. (played_dealt problem setup, played_agrees problem setup); suits = suit_law }
