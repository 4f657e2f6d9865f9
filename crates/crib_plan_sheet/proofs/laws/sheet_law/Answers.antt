use Rattle.crib_plan_sheet.proofs.PlanSheets.{states_the_same}
use Rattle.crib_plan_sheet.proofs.laws.sheet_law.Goals as goal

pub returns : goal.returns
returns c = states_the_same
