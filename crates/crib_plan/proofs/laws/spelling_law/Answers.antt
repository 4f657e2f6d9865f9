use Rattle.crib_text.proofs.FormLaws.{texts_apart}
use Rattle.crib_plan.specs.Spelling.{plan_text}
use Rattle.crib_plan.proofs.PlanForm.{plan_form}
use Rattle.crib_plan.proofs.laws.spelling_law.Goals as goal

pub returns : goal.returns
unfolding plan_text
returns c = texts_apart plan_form
