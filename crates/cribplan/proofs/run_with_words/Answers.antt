use Rattle.crib_answer.proofs.AnswerMeanings.{job_means}
use Rattle.cribplan.proofs.run_with_words.Goals as goal

pub run_with_words-requires : goal.run_with_words-requires
run_with_words-requires g c = job_means _
