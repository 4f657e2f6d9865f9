use Rattle.std.proofs.Common.{sym, ap, ◌∙◌}
use Rattle.crib_plan_sheet.specs.PlanSheet.{sheet_with, sheet_card}
use Rattle.crib_plan_sheet.specs.PlanTextLaws.{PlansOfOneText, OneTextStatesTheSame}
use Rattle.crib_plan_sheet.proofs.PlanSheets.{states_the_same}
use Rattle.crib_plan_sheet.proofs.PlanSheetRows.{plans_have_sheets}
use Rattle.crib_plan_sheet.proofs.PlanTexts.{one_text}
use Rattle.crib_plan_sheet.proofs.laws.sheet_text_law.Goals as goal

plans_of_one_text : PlansOfOneText
plans_of_one_text apart apart' plan plan' is is' same =
    one_text (sheet_with apart plan) (sheet_with apart' plan') (plans_have_sheets apart plan is) (plans_have_sheets apart' plan' is') same

one_text_states_the_same : OneTextStatesTheSame
one_text_states_the_same apart apart' plan plan' turns is is' same =
    sym (states_the_same apart plan turns is)
    ∙ ap (λ sheet. sheet_card sheet turns) (plans_of_one_text apart apart' plan plan' is is' same)
    ∙ states_the_same apart' plan' turns is'

pub returns : goal.returns
returns c = record { valid = plans_have_sheets; different = one_text; plans = plans_of_one_text; stated = one_text_states_the_same }
