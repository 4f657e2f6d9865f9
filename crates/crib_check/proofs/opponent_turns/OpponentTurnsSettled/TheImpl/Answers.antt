use Rattle.crib_check.proofs.Table.{refused_too}
use Rattle.crib_check.proofs.opponent_turns.OpponentTurnsSettled.TheImpl.Goals as goal

pub put-tells : goal.put-tells
put-tells g c = record { held = c.ensures.held; refused = refused_too c.result (λ same _ other _. same other) c.ensures.refused }
