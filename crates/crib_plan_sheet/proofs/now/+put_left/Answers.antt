use Rattle.std.proofs.Common.{◌∙◌, sym}
use Rattle.crib_run.proofs.Printing.{more, none_left, nothing}
use Rattle.crib_plan_sheet.proofs.now.+put_left.Goals as goal

pub returns-in_default : goal.returns-in_default
returns-in_default g t c = rw (none_left c.args.cards.now c.in_default.ensures.cases) (nothing _)

pub returns-then-is_left : goal.returns-then-is_left
returns-then-is_left g t c =
    rw (c.in-Some.ensures.cases.0, sym c.is_left.ensures ∙ c.if-is_left.true) (more c.put_card.ensures c.put_left.ensures)

pub returns-else-is_left : goal.returns-else-is_left
returns-else-is_left g t c = rw (c.in-Some.ensures.cases.0, sym c.is_left.ensures ∙ c.if-is_left.false) c.put_left-else-is_left.ensures
