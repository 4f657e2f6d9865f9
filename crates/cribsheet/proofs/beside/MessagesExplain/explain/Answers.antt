use Rattle.std.proofs.Common.{rules, refl}
use Rattle.crib_run.proofs.Printing.{as_text}
use Rattle.cribsheet.proofs.Runs.{said}
use Rattle.cribsheet.proofs.beside.MessagesExplain.explain.Goals as goal

pub returns : goal.returns
returns g c =
    said g.E.Sink.contents g.E.Sink.faults c.put_acts_beside.new.page.sink.now _ _ _ _ c.message_of-message.ensures
    (as_text c.put.ensures c.as_slice.ensures.text) c.put_acts_beside.ensures refl (λ same. search rules)
