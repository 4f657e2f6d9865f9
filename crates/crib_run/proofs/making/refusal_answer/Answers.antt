use Rattle.std.proofs.Common.{◌∙◌, ap, arith, length}
use Rattle.crib_run.specs.Text.{text_bytes}
use Rattle.crib_run.specs.Reply.{reply_of}
use Rattle.crib_text.proofs.RoomLemmas.{ten_digits}
use Rattle.crib_run.proofs.Lines.{refusal_made}
use Rattle.crib_run.proofs.making.refusal_answer.Goals as goal

pub add-requires : goal.add-requires
add-requires g c = omega (arith, ten_digits, ap length c.new-text.ensures)

pub add_number-requires : goal.add_number-requires
add_number-requires g c = omega (arith, ten_digits, ap length c.new-text.ensures)

pub add-requires-2 : goal.add-requires-2
add-requires-2 g c = omega (arith, ten_digits, ap length c.new-text.ensures)

pub add_number-requires-2 : goal.add_number-requires-2
add_number-requires-2 g c = omega (arith, ten_digits, ap length c.new-text.ensures)

pub add-requires-3 : goal.add-requires-3
add-requires-3 g c = omega (arith, ten_digits, ap length c.new-text.ensures)

pub returns : goal.returns
unfolding reply_of text_bytes
returns g c =
    refusal_made _ _ _ _ _ _ _ _ _ c.new-text.ensures c.add.ensures.items c.add_number.ensures.items c.add-2.ensures.items
    c.add_number-2.ensures.items (c.from.ensures ∙ c.number.ensures) c.add-3.ensures.items

pub invariant_of-result : goal.invariant_of-result
unfolding text_bytes
invariant_of-result g c = record { can_be_sent = omega (arith, ten_digits, ap length c.new-text.ensures) }
