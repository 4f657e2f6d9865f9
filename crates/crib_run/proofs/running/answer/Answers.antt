use Rattle.crib_run.proofs.Delivery.{told}
use Rattle.crib_run.proofs.running.answer.Goals as goal

pub returns-in-Err : goal.returns-in-Err
returns-in-Err g c = (
  _,
  c.in-Err.ensures.outcome,
  c.deliver_reason.ensures.sent,
  told _ _ _ _ _ _ _ _ c.in-Err.ensures.told (rw c.sections-in-Err.ensures at c.deliver_reason.ensures.words),
)
