use Rattle.std.proofs.Common.{sym, subst}
use Rattle.crib_run.specs.Reply.{Reply, reply_of}
use Rattle.crib_answer.specs.Meaning.{StatusMeans}
use Rattle.crib_answer.proofs.AnswerMeanings.{makes_means}
use Rattle.crib_answer.proofs.answering.answer_to.Goals as goal

pub returns-in-Ok-clause-means : goal.returns-in-Ok-clause-means
returns-in-Ok-clause-means g c = makes_means c.args.job c.args.input.now (reply_of c.in-Ok.answer) c.in-Ok.ensures.outcome.1

pub returns-in-Err-clause-means : goal.returns-in-Err-clause-means
returns-in-Err-clause-means g c =
    let M : Reply → Type 0 = λ reply. StatusMeans c.args.job c.args.input.now reply in
    subst M (sym c.reason_answer.ensures) (makes_means c.args.job c.args.input.now _ c.in-Err.ensures.outcome)
