use Rattle.std.proofs.Common.{map}
use Rattle.crib_answer.specs.Job.{all_jobs, name_of}
use Rattle.crib_answer.specs.declared.job.UnknownJob.{UnknownJob}
use Rattle.crib_command.proofs.NamedCommands.{in_commands}
use Rattle.cribplan.proofs.JobWords.{job_listed, jobs_readable}
use Rattle.cribplan.proofs.command.job_of.Goals as goal

pub command_of-requires : goal.command_of-requires
command_of-requires g c = jobs_readable _ c.program.ensures

pub returns : goal.returns
returns g c =
    let is = in_commands {E = UnknownJob} name_of all_jobs (record {}) job_listed _ (map g.S.AsStr.text c.args.words.now) c.program.ensures c.command_of.result
    c.command_of.ensures.named c.command_of.ensures.taken c.command_of.ensures.refused in
    record { named = is.0; taken = is.1; refused = is.2 }
