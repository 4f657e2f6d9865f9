-- The number of an optional refusal.
use Rattle.std.specs.Prelude.{ℕ, Option, Some, None}
use Rattle.crib_problem.specs.declared.fault.ProblemCause.{ProblemCause}
use Rattle.crib_problem.specs.Refusals.{problem_cause_number}

-- the number of a cause, if there is a cause
abbrev pub cause_number_if : Option ProblemCause → Option ℕ
cause_number_if None = None
cause_number_if (Some cause) = Some (problem_cause_number cause)
