use Rattle.crib_problem.proofs.MadeProblems.{in_version_two}
use Rattle.crib_problem.proofs.Setups.{without_opening}
use Rattle.crib_problem.proofs.problem.Problem.at_lead.Goals as goal

pub with_played-requires : goal.with_played-requires
with_played-requires c = λ is. rw c.new.ensures (in_version_two _ (without_opening c.args.self.now is))
