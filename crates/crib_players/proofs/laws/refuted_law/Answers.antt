use Rattle.crib_players.proofs.Refuted.{refuted}
use Rattle.crib_players.proofs.laws.refuted_law.Goals as goal

pub returns : goal.returns
returns c = refuted
