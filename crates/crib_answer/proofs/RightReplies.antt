-- The right replies to an input that is too long, to a verdict, and to what the finder finds.
use Rattle.std.proofs.Common.{◌≡◌, ◌≢◌, ◌⊎◌, ℕ, ◌<◌, List, Option, None, Some, inl, inr, codes, length, Ok, refl, ap, ◌∙◌}
use Rattle.crib_text.specs.Refusals.{no_memory, too_long}
use Rattle.crib_answer.specs.declared.job.Job.{Job}
use Rattle.crib_answer.specs.declared.job.Job.TheVariants.{Replay, Follow, Check, Solve, Board}
use Rattle.crib_problem.specs.Setup.{Setup}
use Rattle.crib_plan.specs.declared.plan.Node.{Node}
use Rattle.crib_plan.specs.Nodes.{most_nodes}
use Rattle.crib_check.specs.Verdicts.{IsRight}
use Rattle.crib_check.specs.declared.verdict.Verdict.{Verdict}
use Rattle.crib_check.specs.declared.verdict.Verdict.TheVariants.{Holds}
use Rattle.crib_run.specs.Reply.{IsAnswer, Reply, fault_reply, refusal_reply}
use Rattle.crib_run.specs.declared.status.Status.TheVariants.{No}
use Rattle.crib_answer.specs.Answer.{Answers, AnswersProblem, Makes, found_reply, verdict_reply}
use Rattle.crib_search.specs.Finder.{IsFound, ExceedsLimit}
use Rattle.crib_input.specs.Input.{most_bytes, problem_alone_at, problem_of_input, question_at, question_of_input}
use Rattle.crib_input.specs.Input.{played_at, played_of_input, played_under_at, played_under_of_input}
use Rattle.crib_input.proofs.Inputs.{counted, read_of_long}
use Rattle.crib_answer.specs.Input.{board_of_input, ending_of_input, report_of_input}
use Rattle.crib_answer.specs.Laws.{TooLongLaw}
use Rattle.crib_answer.specs.Told.{game_fault_in}

-- each job answers an input that is too long with the same refusal
pub long_answers : (job : Job) (input : List ℕ) (reply : Reply) → most_bytes < length input → reply ≡ refusal_reply (record { line = 0; number = too_long })
    → Answers job input reply
unfolding report_of_input ending_of_input board_of_input problem_of_input question_of_input played_of_input played_under_of_input
long_answers Replay input reply long is = rw (read_of_long played_at input long) is
long_answers Follow input reply long is = rw (read_of_long played_under_at input long) is
long_answers Check input reply long is = rw (read_of_long question_at input long) is
long_answers Solve input reply long is = rw (read_of_long problem_alone_at input long) is
long_answers Board input reply long is = rw (read_of_long played_at input long) is

-- in an input that is too long no game is read
pub long_fault : (job : Job) (input : List ℕ) → most_bytes < length input → None ≡ game_fault_in job input
unfolding played_of_input played_under_of_input
long_fault Replay input long = rw (read_of_long played_at input long) refl
long_fault Follow input long = rw (read_of_long played_under_at input long) refl
long_fault Check input long = refl
long_fault Solve input long = refl
long_fault Board input long = rw (read_of_long played_at input long) refl

pub too_long_law : TooLongLaw
too_long_law job input long = long_answers job input _ long refl

-- the reply to a right verdict is one that `check` makes, and so is the fault that memory was refused, if the plan fails
pub verdict_made : (input : List ℕ) (question : Setup × List Node) (verdict : Verdict) (reply : Reply) → question_of_input input ≡ Ok question
    → IsRight question.0 question.1 verdict
    → (reply ≡ verdict_reply verdict) ⊎ ((verdict ≢ Holds) × (reply ≡ fault_reply no_memory)) → Makes Check input reply
verdict_made input question verdict reply asked right (inl is) = inl (rw asked (verdict, right, is))
verdict_made input question verdict reply asked right (inr want) = inr (counted input question asked, want.1)

-- the reply to what the finder finds is a right one for the problem
pub found_owed : (problem : Setup) (plan : Option (List Node)) (reply : Reply) → IsFound problem plan → ¬ ExceedsLimit problem most_nodes
    → reply ≡ found_reply plan → AnswersProblem problem reply
found_owed problem plan reply found small is = inl (plan, found, small, is)

-- the reply to the plan that was found, as the checker passed it, is a right one for the problem. Or it is the fault of a failed allocation
pub plan_made : (problem : Setup) (plan passed : List Node) (reply : Reply) → IsFound problem (Some plan) → ¬ ExceedsLimit problem most_nodes → passed ≡ plan
    → (reply ≡ found_reply (Some passed)) ⊎ (reply ≡ fault_reply no_memory) → AnswersProblem problem reply ⊎ (reply ≡ fault_reply no_memory)
plan_made problem plan passed reply found small same (inl is) =
    inl (found_owed problem (Some plan) reply found small (is ∙ ap (λ (p : List Node). found_reply (Some p)) same))
plan_made problem plan passed reply found small same (inr want) = inr want

-- the reply `none` is an answer, and a right one if the finder finds no plan
pub none_made : (problem : Setup) (reply : Reply) → IsFound problem None → ¬ ExceedsLimit problem most_nodes
    → reply ≡ record { output = codes "none\n"; status = No } → IsAnswer reply.status × (AnswersProblem problem reply ⊎ (reply ≡ fault_reply no_memory))
none_made problem reply found small is = (inr (ap (λ (r : Reply). r.status) is), inl (found_owed problem None reply found small is))
