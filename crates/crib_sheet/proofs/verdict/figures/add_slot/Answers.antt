use Rattle.std.proofs.Common.{◌∙◌, ap, sym}
use Rattle.crib_plan_sheet.specs.PlanText.{label}
use Rattle.crib_sheet.proofs.PlanBeatenLines.{slot_several, slot_single}
use Rattle.crib_sheet.proofs.verdict.figures.add_slot.Goals as goal

pub returns-then-count-eq1-clause-items : goal.returns-then-count-eq1-clause-items
returns-then-count-eq1-clause-items c =
    rw (c.add-then-count-eq1.ensures.items, c.add.ensures.items)
    (slot_single c.args.text.now.items c.as_slice.result.now c.args.slot.now (sym c.is_any.ensures ∙ c.if-is_any.false)
    (sym c.count.ensures ∙ c.if-count-eq1.true) (c.as_slice.ensures.value ∙ c.label_of-label.ensures.items ∙ ap label c.letters_of.ensures))

pub returns-else-count-eq1-clause-items : goal.returns-else-count-eq1-clause-items
returns-else-count-eq1-clause-items c =
    rw (c.add-else-count-eq1-3.ensures.items, c.add-else-count-eq1-2.ensures.items, c.add-else-count-eq1.ensures.items)
    (slot_several c.args.text.now.items c.as_slice-else-count-eq1.result.now c.args.slot.now (sym c.is_any.ensures ∙ c.if-is_any.false)
    (λ one. c.if-count-eq1.false (c.count.ensures ∙ one))
    (c.as_slice-else-count-eq1.ensures.value ∙ c.label_of-label.ensures.items ∙ ap label c.letters_of.ensures))
