use Rattle.cribsheet.proofs.JobWords.{jobs_readable}
use Rattle.cribsheet.proofs.job_of_args.Goals as goal

pub command_of-requires : goal.command_of-requires
command_of-requires g c = jobs_readable _ c.program.ensures

pub command_without_words-requires : goal.command_without_words-requires
command_without_words-requires g c = jobs_readable _ c.program-in-Err.ensures
