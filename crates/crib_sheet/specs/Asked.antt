-- What `plan` reads in an input: a problem, and the plan behind it if there is one.
use Rattle.std.specs.Prelude.{ℕ, List, Option, Some, None, Result, Ok, Err}
use Rattle.crib_text.specs.Refusals.{Refusal}
use Rattle.crib_problem.specs.Setup.{Setup}
use Rattle.crib_plan.specs.declared.plan.Node.{Node}
use Rattle.crib_input.specs.Input.{problem_of_input, question_of_input}

-- a problem and the plan behind it, or the first refusal: an input that is read as a problem alone has no plan
abbrev pub plan_or_none :
    Result Setup Refusal → Result (Setup × List Node) Refusal → Result (Setup × Option (List Node)) Refusal
plan_or_none (Ok problem) question = Ok (problem, None)
plan_or_none (Err refusal) (Ok question) = Ok (question.0, Some question.1)
plan_or_none (Err refusal) (Err first) = Err first

-- the problem of an input and the plan behind it, if there is one, or the first refusal
abbrev pub asked_of_input : List ℕ → Result (Setup × Option (List Node)) Refusal
asked_of_input bytes = plan_or_none (problem_of_input bytes) (question_of_input bytes)
