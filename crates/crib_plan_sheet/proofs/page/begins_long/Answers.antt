use Rattle.std.proofs.Common.{◌∙◌, length, subst, sym}
use Rattle.crib_plan_sheet.specs.Private.Pages.{IsDeep}
use Rattle.crib_plan_sheet.proofs.PutRows.{long_first, start_deep}
use Rattle.crib_plan_sheet.proofs.page.begins_long.Goals as goal

pub has_lines-requires : goal.has_lines-requires
has_lines-requires g c =
    subst (IsDeep 0 (length c.args.walk.now.plan.now)) (sym c.start.ensures.place) (start_deep c.args.walk.now.plan.now)

pub returns-then-is_long : goal.returns-then-is_long
returns-then-is_long g c =
    c.has_lines.ensures
    ∙ long_first c.args.walk.now.outline.now c.args.walk.now.plan.now c.start.result c.start.ensures.place (sym c.is_long.ensures ∙ c.if-is_long.true)
