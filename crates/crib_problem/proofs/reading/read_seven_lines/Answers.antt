use Rattle.std.proofs.Common.{rules}
use Rattle.crib_text.specs.Lines.{rest_of}
use Rattle.crib_text.specs.Reading.{value_at}
use Rattle.crib_problem.specs.Private.Reading.{cards_and_goal_at}
use Rattle.crib_problem.proofs.ProblemForm.{seven_setup}
use Rattle.crib_problem.proofs.reading.read_seven_lines.Goals as goal

pub invariant_of-result : goal.invariant_of-result
unfolding cards_and_goal_at value_at
invariant_of-result c = seven_setup (rest_of c.args.lines.now) _ (search rules)
