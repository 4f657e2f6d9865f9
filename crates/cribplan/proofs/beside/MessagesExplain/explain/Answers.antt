use Rattle.std.proofs.Common.{ℕ, List, codes, subst, sym}
use Rattle.crib_message.specs.Message.{IsMessage}
use Rattle.crib_run.proofs.Delivery.{sent_part}
use Rattle.cribplan.proofs.beside.MessagesExplain.explain.Goals as goal

pub returns : goal.returns
returns g c =
    let text = c.as_slice.result.now in
    let sent = c.put-sent.ensures in
    let M : List ℕ → Type 0 = λ bytes. IsMessage (codes "cribplan") c.args.sections c.args.input.now c.args.reason.now bytes in (
      text,
      subst M (sym c.as_slice.ensures.text) c.message_of-message.ensures,
      sent_part (λ stopped. stopped.sent) c.put-sent.result _ _ text _ sent.all sent.part sent.cut sent.failed,
    )
