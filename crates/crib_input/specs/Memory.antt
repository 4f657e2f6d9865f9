-- The number of nodes that an input states. Memory for a plan is allocated once this number is read.
use Rattle.std.specs.Prelude.{ℕ, List, Result, Ok}
use Rattle.crib_text.specs.Refusals.{Refusal}
use Rattle.crib_text.specs.Reading.{◌>>=◌, Rest}
use Rattle.crib_problem.specs.Reading.{problem_at}
use Rattle.crib_plan.specs.Reading.{count_at}
use Rattle.crib_input.specs.Input.{input_lines}

-- the number of nodes that the plan after a problem states, or the first refusal. Only the first two lines of the plan
-- are read
unfoldable pub count_behind : Rest → Result ℕ Refusal
count_behind rest = do
  problem ← problem_at rest
  count ← count_at problem.1
  Ok count.0

-- the number of nodes that an input states after its problem, or the first refusal
unfoldable pub count_of_input : List ℕ → Result ℕ Refusal
count_of_input bytes = input_lines bytes >>= count_behind
