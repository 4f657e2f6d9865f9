use Rattle.crib_text.proofs.FormLaws.{lines_cut_short, text_cut_short}
use Rattle.crib_problem.specs.Spelling.{problem_text}
use Rattle.crib_problem.proofs.ProblemForm.{problem_form}
use Rattle.crib_problem.proofs.cut_laws.cut_short_law.Goals as goal

pub returns : goal.returns
unfolding problem_text
returns c = record { lines = lines_cut_short problem_form; text = text_cut_short problem_form }
