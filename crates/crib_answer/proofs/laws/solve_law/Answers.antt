use Rattle.crib_answer.proofs.Replies.{plan_law, no_plan_law}
use Rattle.crib_answer.proofs.laws.solve_law.Goals as goal

pub returns : goal.returns
returns c = record { plan = plan_law; none = no_plan_law }
