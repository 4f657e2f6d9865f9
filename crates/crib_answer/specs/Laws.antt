-- The laws of the replies. They say what the bytes of an input spell, by the bytes of the right reply to it.
use Rattle.std.specs.Prelude.{◌≡◌, ◌⊎◌, ◌↔◌, ◌<◌, ℕ, List, ◌∷◌, ◌++◌, Option, Some, None, length, codes}
use Rattle.crib_text.specs.Refusals.{Refusal, cut_short, too_long}
use Rattle.crib_text.specs.Words.{line_after}
use Rattle.crib_show.specs.declared.show.outcomes.Outcome.{Outcome}
use Rattle.crib_show.specs.declared.show.outcomes.Outcome.TheVariants as outcome
use Rattle.crib_problem.specs.Setup.{Setup}
use Rattle.crib_problem.specs.Spelling.{problem_text}
use Rattle.crib_plan.specs.declared.plan.Node.{Node}
use Rattle.crib_game.specs.declared.section.game.Game.{Game}
use Rattle.crib_game.specs.declared.following.ending.Ending.{Ending}
use Rattle.crib_game.specs.declared.following.ending.Ending.TheVariants as ending
use Rattle.crib_game.specs.Spelling.{game_text}
use Rattle.crib_check.specs.declared.verdict.Verdict.TheVariants.{Holds, Fails}
use Rattle.crib_sure.specs.Sure.{IsSure}
use Rattle.crib_check.specs.Failing.{IsFirstFailing}
use Rattle.crib_answer.specs.declared.job.Job.{Job}
use Rattle.crib_answer.specs.declared.job.Job.TheVariants.{Replay, Follow, Check, Solve, Board}
use Rattle.crib_input.specs.Input.{most_bytes}
use Rattle.crib_input.specs.Spelled.{SpellsPlan, SpellsPlannedGame}
use Rattle.crib_run.specs.Reply.{Reply}
use Rattle.crib_run.specs.Reply.{refusal_reply}
use Rattle.crib_answer.specs.Answer.{Answers, verdict_reply, ending_reply}
use Rattle.crib_answer.specs.Meaning.{HasSurePlan, HasFailingPlan, IsSolvedBy, HasNoPlan}
use Rattle.crib_answer.specs.Reported.{IsReported}
use Rattle.crib_answer.specs.Meaning.{holds_line, fails_line, none_line}

-- ---- every job

-- a job has at most one right reply to an input
abbrev pub OneReplyLaw : Type 0
OneReplyLaw =
    (job : Job) (input : List ℕ) (one other : Reply) → Answers job input one → Answers job input other → one ≡ other

-- for an input of more bytes than an input may have, the right reply of each job is the refusal that it is too long,
-- with line 0
abbrev pub TooLongLaw : Type 0
TooLongLaw =
    (job : Job) (input : List ℕ) → most_bytes < length input →
    Answers job input (refusal_reply (record { line = 0; number = too_long }))

-- ---- beginnings

-- a job accepts an input: its right reply is no refusal
abbrev pub IsAccepted : Job → List ℕ → Type 0
IsAccepted job input = (refusal : Refusal) → ¬ Answers job input (refusal_reply refusal)

-- each proper beginning of an accepted input is refused as cut short. The line is that of the first missing byte
abbrev pub CutShortLaw : Type 0
CutShortLaw =
    (job : Job) (front : List ℕ) (next : ℕ) (back : List ℕ) → IsAccepted job (front ++ next ∷ back) →
    Answers job front (refusal_reply (record { line = line_after front; number = cut_short }))

-- ---- check

-- if the right reply is `holds`, the input spells a problem and a plan that is sure for it, and the play goes on until
-- the deal is done
abbrev pub HoldsLaw : Type 0
HoldsLaw =
    (input : List ℕ) (reply : Reply) → Answers Check input reply → reply.output ≡ holds_line → HasSurePlan input

-- if the right reply begins with `fails` and an ending, the input spells a problem and a plan. The text after that line
-- spells the first failing game of the plan, and this game has this ending
abbrev pub FailsLaw : Type 0
FailsLaw =
    (input : List ℕ) (reply : Reply) (result : Ending) (text : List ℕ) → Answers Check input reply →
    reply.output ≡ fails_line result ++ text →
    (fails : HasFailingPlan input result text) × IsFirstFailing fails.problem fails.plan fails.game result

-- if an input spells a problem and a plan, each right reply is `holds`, or `fails` with an ending and a game
abbrev pub EitherLaw : Type 0
EitherLaw =
    (input : List ℕ) (problem : Setup) (plan : List Node) (reply : Reply) → SpellsPlan input problem plan →
    Answers Check input reply →
    (reply ≡ verdict_reply Holds) ⊎ ((result : Ending) × (game : Game) × (reply ≡ verdict_reply (Fails result game)))

-- if an input spells a problem and a plan that is sure for it, `holds` is the right reply
abbrev pub SureLaw : Type 0
SureLaw =
    (input : List ℕ) (problem : Setup) (plan : List Node) → SpellsPlan input problem plan → IsSure problem plan →
    Answers Check input (verdict_reply Holds)

-- if an input spells a problem and a plan that has a first failing game, the right reply is `fails` with its ending and
-- this game
abbrev pub FailingLaw : Type 0
FailingLaw =
    (input : List ℕ) (problem : Setup) (plan : List Node) (result : Ending) (game : Game) →
    SpellsPlan input problem plan → IsFirstFailing problem plan game result →
    Answers Check input (verdict_reply (Fails result game))

-- ---- solve

-- if the right reply begins with `plan`, the input spells a problem, the reply spells a plan that is sure for it, and
-- the play goes on until the deal is done
abbrev pub PlanLaw : Type 0
PlanLaw =
    (input : List ℕ) (reply : Reply) (more : List ℕ) → Answers Solve input reply →
    reply.output ≡ codes "plan" ++ more → IsSolvedBy input reply.output

-- if the right reply is `none`, the input spells a problem for which no plan is sure
abbrev pub NoneLaw : Type 0
NoneLaw =
    (input : List ℕ) (reply : Reply) → Answers Solve input reply → reply.output ≡ none_line → HasNoPlan input

-- ---- several jobs

-- if the right reply of `check` to an input is `fails` with an ending and a game, this ending is the right reply of
-- `follow` to that input with the game after it
abbrev pub FailedGameLaw : Type 0
FailedGameLaw =
    (input : List ℕ) (reply : Reply) (result : Ending) (text : List ℕ) → Answers Check input reply →
    reply.output ≡ fails_line result ++ text → Answers Follow (input ++ text) (ending_reply result)

-- if the right reply of `solve` to an input is a plan, `holds` is the right reply of `check` to that input with the
-- plan after it
abbrev pub FoundPlanLaw : Type 0
FoundPlanLaw =
    (input : List ℕ) (reply : Reply) (more : List ℕ) → Answers Solve input reply →
    reply.output ≡ codes "plan" ++ more → Answers Check (input ++ reply.output) (verdict_reply Holds)

-- the outcome of a deal with an ending: an open game and a stuck one have none
abbrev pub outcome_with : Ending → Option Outcome
outcome_with ending.Open = None
outcome_with ending.Stuck = None
outcome_with ending.Lost = Some outcome.Lost
outcome_with ending.Short = Some outcome.Short
outcome_with ending.Reached = Some outcome.Reached

-- if the right reply of `follow` to an input is an ending, the input spells a problem, a plan and a game. The problem
-- and the game without the plan have a report with the acts of this game, and its outcome is that of the ending
abbrev pub FollowedGameLaw : Type 0
FollowedGameLaw =
    (input : List ℕ) (result : Ending) → Answers Follow input (ending_reply result) →
    (problem : Setup) × (plan : List Node) × (game : Game) × SpellsPlannedGame input problem plan game
    × (reported : IsReported (problem_text problem ++ game_text game) problem game)
    × (reported.report.over ≡ outcome_with result)

-- `replay` refuses an input exactly as `board` does
abbrev pub SameRefusalLaw : Type 0
SameRefusalLaw =
    (input : List ℕ) (refusal : Refusal) →
    Answers Replay input (refusal_reply refusal) ↔ Answers Board input (refusal_reply refusal)

-- if the right reply of `replay` to an input has scores, one report of the problem and the game makes the replies of
-- `replay` and `board`
abbrev pub SameReportLaw : Type 0
SameReportLaw =
    (input : List ℕ) (reply : Reply) (more : List ℕ) → Answers Replay input reply →
    reply.output ≡ codes "play" ++ more → (problem : Setup) × (game : Game) × IsReported input problem game
