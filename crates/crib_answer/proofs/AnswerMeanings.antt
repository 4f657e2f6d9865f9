-- A reply that a job makes has the meaning that `specs/Meaning` states.
use Rattle.std.proofs.Common.{◌≡◌, inl, inr, ℕ, List, Option, Some, None, Result, Ok, Err}
use Rattle.std.proofs.Common.{refl, sym, ◌∙◌, subst}
use Rattle.crib_text.specs.Refusals.{Refusal, no_memory}
use Rattle.crib_problem.specs.Setup.{Setup}
use Rattle.crib_plan.specs.declared.plan.Node.{Node}
use Rattle.crib_plan.specs.Nodes.{most_nodes}
use Rattle.crib_game.specs.Spelling.{game_text}
use Rattle.crib_check.specs.declared.verdict.Verdict.{Verdict}
use Rattle.crib_check.specs.declared.verdict.Verdict.TheVariants.{Holds, Fails}
use Rattle.crib_check.specs.Verdicts.{IsRight}
use Rattle.crib_check.proofs.VerdictAtStart.{ends, sure_goes_on}
use Rattle.crib_search.specs.Finder.{ExceedsLimit, IsFound}
use Rattle.crib_search.proofs.FoundIsPlan.{plan_within}
use Rattle.crib_search.proofs.LawProofs.{sure_law, none_law}
use Rattle.crib_answer.specs.declared.job.Job.{Job}
use Rattle.crib_answer.specs.declared.job.Job.TheVariants.{Replay, Follow, Check, Solve, Board}
use Rattle.crib_input.specs.Input.{problem_of_input, question_of_input}
use Rattle.crib_run.specs.Reply.{Reply}
use Rattle.crib_run.specs.Reply.{fault_reply}
use Rattle.crib_run.specs.Run.{HaveMeaning}
use Rattle.crib_answer.specs.Answer.{AnswersCheck, AnswersProblem, AnswersSolve, Makes, verdict_reply, found_reply}
use Rattle.crib_input.specs.Spelled.{SpellsProblem, SpellsPlan}
use Rattle.crib_answer.specs.Meaning.{CheckMeans, SolveMeans, StatusMeans}
use Rattle.crib_answer.proofs.RightReplies.{long_answers}
use Rattle.crib_input.proofs.Inputs.{problem_accepted, problem_spelled, question_accepted, question_spelled}

-- ---- check

-- what a reply of `check` means
abbrev Checks : List ℕ → Reply → Type 0
Checks input reply = CheckMeans input reply.output reply.status

verdict_means : (input : List ℕ) (problem : Setup) (plan : List Node) (verdict : Verdict) → SpellsPlan input problem plan → IsRight problem plan verdict
    → Checks input (verdict_reply verdict)
verdict_means input problem plan Holds spelled right = (
  record { problem = problem; plan = plan; spelled = spelled; sure = right; goes_on = sure_goes_on problem plan right; ends = ends problem spelled.problem_is },
  refl,
)
verdict_means input problem plan (Fails result game) spelled right =
    (result, game_text game, record { problem = problem; plan = plan; game = game; spelled = spelled; game_is = refl; failing = right.failing }, refl)

check_means : (input : List ℕ) (said : Result (Setup × List Node) Refusal) (reply : Reply) → question_of_input input ≡ said → AnswersCheck said reply
    → Checks input reply
check_means input (Ok question) reply asked answers =
    subst (Checks input) (sym answers.2) (verdict_means input question.0 question.1 answers.0 (question_accepted input question asked) answers.1)
check_means input (Err refusal) reply asked is = subst (Checks input) (sym is) (λ problem plan spelled.
    let e : Ok (problem, plan) ≡ Err refusal = sym (question_spelled input problem plan spelled) ∙ asked in
    absurd cc)

-- ---- solve

-- what a reply of `solve` means
abbrev Solves : List ℕ → Reply → Type 0
Solves input reply = SolveMeans input reply.output reply.status

pub found_means : (input : List ℕ) (problem : Setup) (found : Option (List Node)) → SpellsProblem input problem → IsFound problem found
    → ¬ ExceedsLimit problem most_nodes → Solves input (found_reply found)
found_means input problem (Some plan) spelled found small =
    let sure = sure_law problem plan spelled.problem_is found in
    record {
      problem = problem;
      plan = plan;
      spelled = spelled;
      is_plan = plan_within problem plan spelled.problem_is found small;
      plan_is = refl;
      sure = sure;
      goes_on = sure_goes_on problem plan sure;
      ends = ends problem spelled.problem_is;
    }
found_means input problem None spelled found small = (record { problem = problem; spelled = spelled; none = none_law problem spelled.problem_is found }, refl)

pub problem_means : (input : List ℕ) (problem : Setup) (reply : Reply) → SpellsProblem input problem → AnswersProblem problem reply → Solves input reply
problem_means input problem reply spelled (inl answer) = subst (Solves input) (sym answer.3) (found_means input problem answer.0 spelled answer.1 answer.2)
problem_means input problem reply spelled (inr answer) =
    let large = answer.0 in
    subst (Solves input) (sym answer.1)
    (inr (record { problem = problem; spelled = spelled; some = record { plan = large.0; sure = sure_law problem large.0 spelled.problem_is large.1 } }, refl))

solve_means : (input : List ℕ) (said : Result Setup Refusal) (reply : Reply) → problem_of_input input ≡ said → AnswersSolve said reply → Solves input reply
solve_means input (Ok problem) reply asked answers = problem_means input problem reply (problem_accepted input problem asked) answers
solve_means input (Err refusal) reply asked is = subst (Solves input) (sym is) (λ problem spelled.
    let e : Ok problem ≡ Err refusal = sym (problem_spelled input problem spelled) ∙ asked in
    absurd cc)

-- ---- each command

-- the fault of a failed allocation means nothing for the input
pub memory_means : (job : Job) (input : List ℕ) → StatusMeans job input (fault_reply no_memory)
memory_means Replay input = tt
memory_means Follow input = tt
memory_means Check input = refl
memory_means Solve input = inl refl
memory_means Board input = tt

-- a reply that a job makes means for the input what `StatusMeans` states
pub makes_means : (job : Job) (input : List ℕ) (reply : Reply) → Makes job input reply → StatusMeans job input reply
makes_means Replay input reply made = tt
makes_means Follow input reply made = tt
makes_means Check input reply (inl answers) = check_means input (question_of_input input) reply refl answers
makes_means Check input reply (inr want) = subst (Checks input) (sym want.1) (memory_means Check input)
makes_means Solve input reply (inl answers) = solve_means input (problem_of_input input) reply refl answers
makes_means Solve input reply (inr want) = subst (Solves input) (sym want.1) (memory_means Solve input)
makes_means Board input reply made = tt

pub job_means : (job : Job) → HaveMeaning (Makes job) (StatusMeans job)
job_means job = record {
  answers = makes_means job;
  long = λ input long. makes_means job input _ (inl (long_answers job input _ long refl));
  memory = memory_means job;
}
