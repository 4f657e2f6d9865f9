-- The names of the jobs as the words of the command line.
use Rattle.std.proofs.Common.{◌≡◌, List, true, refl}
use Rattle.clap.specs.Walk.{Text}
use Rattle.crib_answer.specs.declared.job.Job.{Job}
use Rattle.crib_answer.specs.declared.job.Job.TheVariants.{Replay, Follow, Check, Solve, Board}
use Rattle.crib_answer.specs.declared.job.UnknownJob.{UnknownJob}
use Rattle.crib_answer.specs.Job.{all_jobs, job_names, name_of, job_called}
use Rattle.crib_command.specs.Command.{AreReadable, is_command}
use Rattle.crib_command.proofs.NamedCommands.{are_readable}

-- no name of a job is an option, and each of them is read as a job
pub jobs_readable : (names : List Text) → names ≡ job_names → AreReadable {T = Job} {E = UnknownJob} (λ text r. r ≡ job_called text) names
jobs_readable names is = are_readable name_of all_jobs (record {}) names is refl

pub job_listed : (job : Job) → is_command job_names (name_of job) ≡ true
job_listed Replay = refl
job_listed Follow = refl
job_listed Check = refl
job_listed Solve = refl
job_listed Board = refl
