use Rattle.crib_run.specs.Prints.{Prints}
use Rattle.crib_plan_sheet.specs.PlanText.{indent}
use Rattle.crib_plan_sheet.proofs.rows.put_front.Given as goal

abbrev pub invariant-loop-step : goal.invariant-loop-step
invariant-loop-step g l = Prints (indent l._step) (g.P.Page.stand l.initial.page) (g.P.Page.stand l.page)
