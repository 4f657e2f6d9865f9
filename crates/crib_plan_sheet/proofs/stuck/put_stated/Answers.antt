use Rattle.std.proofs.Common.{◌≡◌, ◌∙◌, true, false, sym, rules}
use Rattle.crib_cards.specs.Sets.{has}
use Rattle.crib_run.proofs.Printing.{as_text, more}
use Rattle.crib_plan_sheet.specs.PlanNow.{held_after}
use Rattle.crib_plan_sheet.proofs.stuck.put_stated.Goals as goal

pub returns-in_default : goal.returns-in_default
returns-in_default g c = rw c.in_default.is c.put.ensures

pub returns-then-is_held : goal.returns-then-is_held
returns-then-is_held g c =
    let held : has (held_after c.args.problem.now c.args.acts.now) c.in-Some.card ≡ true =
    rw c.hold.ensures at (sym c.is_held.ensures ∙ c.if-is_held.true) in
    rw (c.in-Some.is, held) (as_text (more (more c.put-2.ensures c.put-3.ensures) c.put-then-is_held.ensures) (search rules))

pub returns-else-is_held : goal.returns-else-is_held
returns-else-is_held g c =
    let held : has (held_after c.args.problem.now c.args.acts.now) c.in-Some.card ≡ false =
    rw c.hold.ensures at (sym c.is_held.ensures ∙ c.if-is_held.false) in
    rw (c.in-Some.is, held) (as_text (more (more c.put-2.ensures c.put-3.ensures) c.put-else-is_held.ensures) (search rules))
