-- The right reply of each job to an input: the text of a sheet, and the exit status.
use Rattle.std.specs.Prelude.{◌≡◌, ◌≤◌, ◌⊎◌, ℕ, Bool, List, ◌++◌, length, Option, Some, None, Result, Ok, Err, IsOk}
use Rattle.crib_text.specs.Refusals.{Refusal, no_memory}
use Rattle.crib_text.specs.Reading.{◌>>=◌}
use Rattle.crib_cards.specs.declared.moves.Act.{Act}
use Rattle.crib_problem.specs.Setup.{Setup}
use Rattle.crib_plan.specs.Nodes.{ArePlan, most_nodes}
use Rattle.crib_plan.specs.Spelling.{plan_text}
use Rattle.crib_plan.specs.declared.plan.Node.{Node}
use Rattle.crib_check.specs.declared.verdict.Verdict.{Verdict}
use Rattle.crib_check.specs.declared.verdict.Verdict.TheVariants.{Holds, Fails}
use Rattle.crib_check.specs.Verdicts.{IsRight}
use Rattle.crib_input.specs.Input.{played_of_input, problem_of_input, question_of_input}
use Rattle.crib_input.specs.Memory.{count_of_input}
use Rattle.crib_run.specs.declared.status.Status.{Status}
use Rattle.crib_run.specs.declared.status.Status.TheVariants.{Yes, No}
use Rattle.crib_run.specs.Reply.{Reply, fault_reply, refusal_reply, reply_of}
use Rattle.crib_answer.specs.Input.{judgement_of}
use Rattle.crib_answer.specs.Answer.{reply_by, too_large}
use Rattle.crib_search.specs.Finder.{ExceedsLimit, IsFound}
use Rattle.crib_search.specs.Tried.{IsNeverStuck}
use Rattle.crib_search.specs.Winnable.{IsWinnable}
use Rattle.crib_beaten.specs.Tally.{AreFigures}
use Rattle.crib_beaten.specs.declared.rows.Rows.{Rows}
use Rattle.crib_beaten.specs.declared.tally.RanksTally.{RanksTally}
use Rattle.crib_game.specs.declared.section.game.Game.{Game}
use Rattle.crib_players.specs.Refutations.{Refutes}
use Rattle.crib_why.specs.Answer.{AreBySuit, SomeIsSure}
use Rattle.crib_game_sheet.specs.GamePlay.{game_reasons}
use Rattle.crib_game_sheet.specs.GameText.{game_sheet_text, sheet_of as sheet_text_of}
use Rattle.crib_next.specs.Input.{next_of_question, next_question_of_input}
use Rattle.crib_sheet.specs.Asked.{asked_of_input}
use Rattle.crib_sheet.specs.Beaten.{beaten_reply, tally_reply}
use Rattle.crib_sheet.specs.Holes.{HasHoles, holes_sheet_reply}
use Rattle.crib_sheet.specs.Leads.{HasLargePlan, HasLeads, leads_reply}
use Rattle.crib_sheet.specs.Next.{next_parts_reply, next_reply}
use Rattle.crib_sheet.specs.PlanHead.{head_text, is_sure}
use Rattle.crib_sheet.specs.PlanBeaten.{AreBeatingOf, IsBest}
use Rattle.crib_sheet.specs.declared.verdict.beaten.Best.{Best}
use Rattle.crib_sheet.specs.Refute.{WhyTexts, words_reply, refute_reply, refute_texts, why_texts}
use Rattle.crib_sheet.specs.Scores.{scores_reply, scores_text}
use Rattle.crib_tables.specs.Scores.{AreScores}
use Rattle.crib_tables.specs.declared.scores.ScoreTable.{ScoreTable}
use Rattle.crib_plan_sheet.specs.PlanPage.{plan_page}
use Rattle.crib_plan_sheet.specs.PlanOutline.{apart_in}
use Rattle.crib_sheet.specs.declared.answer.Sheet.{Sheet}
use Rattle.crib_sheet.specs.declared.answer.Sheet.TheVariants as sheets
use Rattle.crib_sheet.specs.declared.answer.plan.PlanSheet.{PlanSheet}
use Rattle.crib_sheet.specs.declared.answer.game.GameSheet.{GameSheet}
use Rattle.crib_sheet.specs.declared.answer.job.SheetJob.{SheetJob}
use Rattle.crib_sheet.specs.declared.answer.job.SheetJob.TheVariants.{Plan, Game as GameJob, Beaten, Try}
use Rattle.crib_sheet.specs.declared.answer.job.SheetJob.TheVariants.{Refute, Why, Leads, Next, Scores, Holes}

-- ---- a game

-- what `game` reads in an input: the sheet of the game, or the first refusal. The game is judged against the problem
-- last
unfoldable pub game_sheet_of_input : List ℕ → Result (List ℕ) Refusal
game_sheet_of_input bytes =
    played_of_input bytes >>= λ (problem, game, first). judgement_of game first (game_sheet_text problem game)

-- the reply with the sheet of a game: its text, and the status yes
abbrev pub game_reply : List ℕ → Reply
game_reply text = record { output = text; status = Yes }

-- ---- a plan to try

-- a plan is one to try with this status. Yes: it is the sure plan that the finder finds. No: no plan is sure, and it is
-- some plan that is never stuck
abbrev pub IsToTry : Setup → List Node → Status → Type 0
IsToTry problem plan status =
    ((status ≡ Yes) × IsFound problem (Some plan) × (¬ ExceedsLimit problem most_nodes))
    ⊎ ((status ≡ No) × (¬ IsWinnable problem) × ArePlan plan × IsNeverStuck problem plan)

-- a reply is that of a plan to try, to which `answers` relates it. Or it is a fault if the sure plan that the finder
-- finds has more nodes than a plan may have
abbrev pub AnswersWithPlan : Setup → (List Node → Reply → Type 0) → Reply → Type 0
AnswersWithPlan problem answers reply =
    ((plan : List Node) × IsToTry problem plan reply.status × answers plan reply)
    ⊎ (ExceedsLimit problem most_nodes × (reply ≡ fault_reply too_large))

-- a reply is right for `try`, by what was read: it is the text of a plan to try, or that of the refusal
abbrev pub AnswersTry : Result Setup Refusal → Reply → Type 0
AnswersTry (Ok problem) reply =
    AnswersWithPlan problem (λ plan reply. reply.output ≡ plan_text plan) reply
AnswersTry (Err refusal) reply = reply ≡ refusal_reply refusal

-- ---- a plan

-- the status of a verdict: yes if the plan is sure, and no otherwise
abbrev pub verdict_status : Verdict → Status
verdict_status Holds = Yes
verdict_status (Fails result game) = No

-- the reply with the sheet of a plan, by the verdict on it, the deals that beat it, how few beat another plan, and
-- which nodes have paragraphs of their own: the position, verdict and deals in words, the sheet, and how to read it
abbrev pub plan_reply : Setup → List Node → Verdict → ℕ → ℕ → Option Rows → Best → (ℕ → Bool) → Reply
plan_reply problem plan verdict open_deals beaten hands best apart = record {
  output = head_text problem plan verdict open_deals beaten hands best
      ++ plan_page (is_sure (verdict_status verdict)) apart plan;
  status = verdict_status verdict;
}

-- a reply is the sheet of a plan: it is that of a right verdict on the problem and the plan, of right figures if the
-- plan fails, of how few beat another plan, and of any nodes with paragraphs of their own
abbrev pub IsSheetOf : Setup → List Node → Reply → Type 0
IsSheetOf problem plan reply =
    (verdict : Verdict) × (open_deals : ℕ) × (beaten : ℕ) × (hands : Option Rows) × (best : Best)
    × (apart : ℕ → Bool) × IsRight problem plan verdict × AreBeatingOf problem plan verdict open_deals beaten hands
    × IsBest problem best × (reply ≡ plan_reply problem plan verdict open_deals beaten hands best apart)

-- a reply is right for `plan`, by what was read: it is the sheet of the plan, or that of a plan to try if there is a
-- problem alone, or it is that of the refusal
abbrev pub AnswersPlan : Result (Setup × Option (List Node)) Refusal → Reply → Type 0
AnswersPlan (Ok (problem, Some plan)) reply = IsSheetOf problem plan reply
AnswersPlan (Ok (problem, None)) reply = AnswersWithPlan problem (IsSheetOf problem) reply
AnswersPlan (Err refusal) reply = reply ≡ refusal_reply refusal

-- the reply with the parts of a plan's sheet
unfoldable pub parts_reply : {A : Type 0} → PlanSheet A → Reply
parts_reply sheet = record {
  output = head_text sheet.problem sheet.plan sheet.verdict sheet.tally.open_deals sheet.tally.beaten sheet.hands
      sheet.best
      ++ plan_page (is_sure sheet.status) (apart_in sheet.outline) sheet.plan;
  status = sheet.status;
}

-- the reply with the parts of a game's sheet
abbrev pub game_parts_reply : GameSheet → Reply
game_parts_reply sheet =
    game_reply (sheet_text_of sheet.problem sheet.game.opp sheet.report (game_reasons sheet.problem sheet.game))

-- ---- which deals beat a plan

-- a reply is right for `beaten`, by what was read: it is that of the right figures for the problem and the plan, or
-- it is that of the refusal
abbrev pub AnswersBeaten : Result (Setup × List Node) Refusal → Reply → Type 0
AnswersBeaten (Ok question) reply =
    (open_deals : ℕ) × (beaten : ℕ) × (rows : List RanksTally)
    × AreFigures question.0 question.1 open_deals beaten rows × (reply ≡ beaten_reply open_deals beaten rows)
AnswersBeaten (Err refusal) reply = reply ≡ refusal_reply refusal

-- ---- why no plan is sure

-- a reply says by one of three texts whether a plan is sure for a problem, and why none is: some plan is; or games
-- refute every player, at most 24; or no plan is sure but some player is, and suits decide after these ranks
abbrev pub SaysWhy : WhyTexts → Setup → Reply → Type 0
SaysWhy texts problem reply =
    (IsWinnable problem × (reply ≡ record { output = texts.sure; status = Yes }))
    ⊎ ((games : List Game) × Refutes problem games × (length games ≤ 24)
    × (reply ≡ record { output = texts.refuted games; status = No }))
    ⊎ ((ranks : List ℕ) × (¬ IsWinnable problem) × SomeIsSure problem × AreBySuit problem ranks
    × (reply ≡ record { output = texts.suits ranks; status = No }))

-- a reply is right for `refute` or for `why`, by what was read: it says why, or it is that of the refusal
abbrev pub AnswersWhy : (Setup → WhyTexts) → Result Setup Refusal → Reply → Type 0
AnswersWhy texts (Ok problem) reply = SaysWhy (texts problem) problem reply
AnswersWhy texts (Err refusal) reply = reply ≡ refusal_reply refusal

-- ---- what may be played next

-- a reply is right for `leads`, by what was read: it has the turns that may come next, or it is the fault of a plan
-- with more nodes than a plan may have, or it is the refusal
abbrev pub AnswersLeads : Result Setup Refusal → Reply → Type 0
AnswersLeads (Ok problem) reply = HasLeads problem reply ⊎ (HasLargePlan problem × (reply ≡ fault_reply too_large))
AnswersLeads (Err refusal) reply = reply ≡ refusal_reply refusal

-- ---- what comes next

-- the reply of `next` by what was read: what comes next after the turns, or the refusal of a turn or of the input
abbrev pub next_reply_to : Result (Setup × List Node × List Act × ℕ) Refusal → Reply
next_reply_to (Ok (problem, plan, turns, first)) =
    reply_by (next_reply problem plan turns) (next_of_question (problem, plan, turns, first))
next_reply_to (Err refusal) = refusal_reply refusal

-- ---- at which scores turns are sure

-- a reply is right for `scores`, by what was read: it is the table of what is sure at the scores around those of the
-- problem, or it is that of the refusal
abbrev pub AnswersScores : Result Setup Refusal → Reply → Type 0
AnswersScores (Ok problem) reply =
    (table : ScoreTable) × AreScores problem table
    × (reply ≡ record { output = scores_text problem table; status = Yes })
AnswersScores (Err refusal) reply = reply ≡ refusal_reply refusal

-- ---- how many holes are sure

-- a reply is right for `holes`, by what was read: it has the right figures for the problem, or it is that of the
-- refusal
abbrev pub AnswersHoles : Result Setup Refusal → Reply → Type 0
AnswersHoles (Ok problem) reply = HasHoles problem reply
AnswersHoles (Err refusal) reply = reply ≡ refusal_reply refusal

-- ---- each sheet

-- the reply with a sheet
abbrev pub sheet_reply : {A : Type 0} → Sheet A → Reply
sheet_reply (sheets.Plan sheet) = parts_reply sheet
sheet_reply (sheets.Game sheet) = game_parts_reply sheet
sheet_reply (sheets.Beaten tally) = tally_reply tally
sheet_reply (sheets.Try answer) = reply_of answer
sheet_reply (sheets.Refute why) = refute_reply why
sheet_reply (sheets.Reasons why) = words_reply why
sheet_reply (sheets.Leads sheet) = leads_reply sheet
sheet_reply (sheets.Next sheet) = next_parts_reply sheet
sheet_reply (sheets.Scores sheet) = scores_reply sheet
sheet_reply (sheets.Holes sheet) = holes_sheet_reply sheet

-- ---- right replies

-- a reply is a right one of a job to an input
abbrev pub SheetAnswers : SheetJob → List ℕ → Reply → Type 0
SheetAnswers Plan input reply = AnswersPlan (asked_of_input input) reply
SheetAnswers GameJob input reply = reply ≡ reply_by game_reply (game_sheet_of_input input)
SheetAnswers Beaten input reply = AnswersBeaten (question_of_input input) reply
SheetAnswers Try input reply = AnswersTry (problem_of_input input) reply
SheetAnswers Refute input reply = AnswersWhy (λ problem. refute_texts) (problem_of_input input) reply
SheetAnswers Why input reply = AnswersWhy why_texts (problem_of_input input) reply
SheetAnswers Leads input reply = AnswersLeads (problem_of_input input) reply
SheetAnswers Next input reply = reply ≡ next_reply_to (next_question_of_input input)
SheetAnswers Scores input reply = AnswersScores (problem_of_input input) reply
SheetAnswers Holes input reply = AnswersHoles (problem_of_input input) reply

-- a job may allocate memory for an input: `plan`, `beaten` and `next` if the problem and the first two lines of the
-- plan are not refused, `plan`, `try`, `refute`, `why`, `leads`, `scores` and `holes` if the input has a problem
-- alone, and `game` never
abbrev pub SheetAsksForMemory : SheetJob → List ℕ → Type 0
SheetAsksForMemory Plan input = IsOk (count_of_input input) ⊎ IsOk (problem_of_input input)
SheetAsksForMemory GameJob input = ⊥
SheetAsksForMemory Beaten input = IsOk (count_of_input input)
SheetAsksForMemory Try input = IsOk (problem_of_input input)
SheetAsksForMemory Refute input = IsOk (problem_of_input input)
SheetAsksForMemory Why input = IsOk (problem_of_input input)
SheetAsksForMemory Leads input = IsOk (problem_of_input input)
SheetAsksForMemory Next input = IsOk (count_of_input input)
SheetAsksForMemory Scores input = IsOk (problem_of_input input)
SheetAsksForMemory Holes input = IsOk (problem_of_input input)

-- a reply is one that a job makes for an input in memory: it is a right one, or it is the fault of a failed allocation
-- and the job may allocate memory
abbrev pub SheetMakes : SheetJob → List ℕ → Reply → Type 0
SheetMakes job input reply =
    SheetAnswers job input reply ⊎ (SheetAsksForMemory job input × (reply ≡ fault_reply no_memory))
