-- The names of the jobs as the words of the command line.
use Rattle.std.proofs.Common.{◌≡◌, List, refl}
use Rattle.clap.specs.Walk.{Text}
use Rattle.crib_answer.specs.declared.job.UnknownJob.{UnknownJob}
use Rattle.crib_command.specs.Command.{AreReadable}
use Rattle.crib_command.proofs.NamedCommands.{are_readable}
use Rattle.crib_sheet.specs.declared.answer.job.SheetJob.{SheetJob}
use Rattle.crib_sheet.specs.Job.{all_jobs, job_called, job_names, name_of}

-- no name of a job is an option, and each of them is read as a job
pub jobs_readable : (names : List Text) → names ≡ job_names → AreReadable {T = SheetJob} {E = UnknownJob} (λ text r. r ≡ job_called text) names
jobs_readable names is = are_readable name_of all_jobs (record {}) names is refl
