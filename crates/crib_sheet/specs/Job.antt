-- The names of the jobs, and what their inputs have.
use Rattle.std.specs.Prelude.{ℕ, List, [], ◌∷◌, Result, codes, find, map, ok_or}
use Rattle.std.specs.Str.{bytes_eq}
use Rattle.crib_answer.specs.declared.job.UnknownJob.{UnknownJob}
use Rattle.crib_input.specs.declared.sections.Sections.{Sections}
use Rattle.crib_input.specs.declared.sections.Sections.TheVariants.{Problem, Question, Played, Turns}
use Rattle.crib_sheet.specs.declared.answer.job.SheetJob.{SheetJob}
use Rattle.crib_sheet.specs.declared.answer.job.SheetJob.TheVariants.{Plan, Game, Beaten, Try, Refute, Why, Leads, Next}
use Rattle.crib_sheet.specs.declared.answer.job.SheetJob.TheVariants.{Scores, Holes}

-- the name of a job: the command that is typed for it
abbrev pub name_of : SheetJob → List ℕ
name_of Plan = codes "plan"
name_of Game = codes "game"
name_of Beaten = codes "beaten"
name_of Try = codes "try"
name_of Refute = codes "refute"
name_of Why = codes "why"
name_of Leads = codes "leads"
name_of Next = codes "next"
name_of Scores = codes "scores"
name_of Holes = codes "holes"

-- the jobs, in the order in which the help text lists them
abbrev pub all_jobs : List SheetJob
all_jobs = Plan ∷ Game ∷ Beaten ∷ Try ∷ Refute ∷ Why ∷ Leads ∷ Next ∷ Scores ∷ Holes ∷ []

-- the names of the jobs, in the same order
abbrev pub job_names : List (List ℕ)
job_names = map name_of all_jobs

-- the job with a name, or an error if no job has this name
abbrev pub job_called : List ℕ → Result SheetJob UnknownJob
job_called text = ok_or (find (λ job. bytes_eq text (name_of job)) all_jobs) (record {})

-- the sections that the input of a job has to have
abbrev pub sections_of : SheetJob → Sections
sections_of Plan = Question
sections_of Game = Played
sections_of Beaten = Question
sections_of Try = Problem
sections_of Refute = Problem
sections_of Why = Problem
sections_of Leads = Problem
sections_of Next = Turns
sections_of Scores = Problem
sections_of Holes = Problem
