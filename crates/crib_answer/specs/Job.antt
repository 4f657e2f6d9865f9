-- The names of the jobs, and what their inputs have.
use Rattle.std.specs.Prelude.{ℕ, List, [], ◌∷◌, Result, codes, find, map, ok_or}
use Rattle.std.specs.Str.{bytes_eq}
use Rattle.crib_input.specs.declared.sections.Sections.{Sections}
use Rattle.crib_input.specs.declared.sections.Sections.TheVariants.{Problem, Question, Played, PlayedUnder}
use Rattle.crib_answer.specs.declared.job.Job.{Job}
use Rattle.crib_answer.specs.declared.job.Job.TheVariants.{Replay, Follow, Check, Solve, Board}
use Rattle.crib_answer.specs.declared.job.UnknownJob.{UnknownJob}

-- the name of a job: the command that is typed for it
abbrev pub name_of : Job → List ℕ
name_of Replay = codes "replay"
name_of Follow = codes "follow"
name_of Check = codes "check"
name_of Solve = codes "solve"
name_of Board = codes "board"

-- the jobs, in the order in which the help text lists them
abbrev pub all_jobs : List Job
all_jobs = Check ∷ Solve ∷ Replay ∷ Board ∷ Follow ∷ []

-- the names of the jobs, in the same order
abbrev pub job_names : List (List ℕ)
job_names = map name_of all_jobs

-- the job with a name, or an error if no job has this name
abbrev pub job_called : List ℕ → Result Job UnknownJob
job_called text = ok_or (find (λ job. bytes_eq text (name_of job)) all_jobs) (record {})

-- the sections that the input of a job has to have
abbrev pub sections_of : Job → Sections
sections_of Replay = Played
sections_of Follow = PlayedUnder
sections_of Check = Question
sections_of Solve = Problem
sections_of Board = Played
