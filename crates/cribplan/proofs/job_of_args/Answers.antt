use Rattle.cribplan.proofs.JobWords.{jobs_readable}
use Rattle.cribplan.proofs.job_of_args.Goals as goal

pub command_without_words-requires : goal.command_without_words-requires
command_without_words-requires g c = jobs_readable _ c.program.ensures
