-- The law of the replies of the second program.
use Rattle.std.specs.Prelude.{◌≡◌, ℕ, Bool, true, false, List, IsTrue}
use Rattle.crib_run.specs.Reply.{Reply}
use Rattle.crib_sheet.specs.declared.answer.job.SheetJob.{SheetJob}
use Rattle.crib_sheet.specs.declared.answer.job.SheetJob.TheVariants.{Plan, Game as GameJob, Beaten, Try}
use Rattle.crib_sheet.specs.declared.answer.job.SheetJob.TheVariants.{Refute, Why, Leads, Next, Scores, Holes}
use Rattle.crib_sheet.specs.Sheet.{SheetAnswers}

-- whether a job has at most one right reply to an input, as `game`, `beaten`, `next`, `scores` and `holes` have
abbrev pub has_one_reply : SheetJob → Bool
has_one_reply Plan = false
has_one_reply GameJob = true
has_one_reply Beaten = true
has_one_reply Try = false
has_one_reply Refute = false
has_one_reply Why = false
has_one_reply Leads = false
has_one_reply Next = true
has_one_reply Scores = true
has_one_reply Holes = true

-- two right replies of such a job to one input are equal. The other jobs may have several: `plan`, `try` and `leads`,
-- since which plan to try is free, and which rows of deals that beat a plan; `refute` and `why`, since the games are
abbrev pub OneSheetLaw : Type 0
OneSheetLaw =
    (job : SheetJob) (input : List ℕ) (one other : Reply) → IsTrue (has_one_reply job) →
    SheetAnswers job input one → SheetAnswers job input other → one ≡ other
