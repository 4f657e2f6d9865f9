use Rattle.crib_sheet.proofs.PlanBeatenLines.{four_slots}
use Rattle.crib_sheet.proofs.verdict.figures.term_text.Goals as goal

pub returns : goal.returns
returns c =
    four_slots c.args.term.now _ _ _ _ _ c.told-term c.new-text.ensures c.add_slot.ensures.items c.add_slot-2.ensures.items
    c.add_slot-3.ensures.items c.add_slot-4.ensures.items
