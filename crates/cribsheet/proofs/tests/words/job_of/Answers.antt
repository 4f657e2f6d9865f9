use Rattle.cribsheet.proofs.JobWords.{jobs_readable}
use Rattle.cribsheet.proofs.tests.words.job_of.Goals as goal

pub command_of-requires : goal.command_of-requires
command_of-requires c = jobs_readable _ c.program.ensures
