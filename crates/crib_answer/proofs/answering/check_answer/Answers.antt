use Rattle.crib_run.specs.Reply.{reply_of}
use Rattle.crib_run.proofs.Delivery.{outcome_map}
use Rattle.crib_answer.specs.Answer.{Makes}
use Rattle.crib_answer.specs.declared.job.Job.TheVariants.{Check}
use Rattle.crib_answer.proofs.RightReplies.{verdict_made}
use Rattle.crib_answer.proofs.answering.check_answer.Goals as goal

pub returns-clause-outcome : goal.returns-clause-outcome
returns-clause-outcome g c =
    let question = c.in_ok-question.question in
    outcome_map reply_of _ (Makes Check c.args.input.now)
    (λ reply. verdict_made c.args.input.now (question.problem, question.plan) c.check_with-verdict.result reply
    c.in_ok-question.ensures.read c.check_with-verdict.ensures.right)
    c.verdict_answer.result c.verdict_answer.ensures.outcome
