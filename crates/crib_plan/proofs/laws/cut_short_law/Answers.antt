use Rattle.crib_text.proofs.FormLaws.{lines_cut_short, text_cut_short}
use Rattle.crib_plan.specs.Spelling.{plan_text}
use Rattle.crib_plan.proofs.PlanForm.{plan_form}
use Rattle.crib_plan.proofs.laws.cut_short_law.Goals as goal

pub returns : goal.returns
unfolding plan_text
returns c = record { lines = lines_cut_short plan_form; text = text_cut_short plan_form }
