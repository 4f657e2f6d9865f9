use Rattle.std.proofs.Common.{arith}
use Rattle.crib_run.specs.Pieces.{spaced_card}
use Rattle.crib_run.proofs.Printing.{piece}
use Rattle.crib_run.proofs.page.put_cards.Goals as goal

pub loop-card-preserved : goal.loop-card-preserved
loop-card-preserved g c = piece (spaced_card) _ _ _ (omega arith) c.card-item.is c.loop-card.invariant c.put_card.ensures
