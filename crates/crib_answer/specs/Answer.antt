-- The right reply of each job to an input: the text that is written, and the exit status. And when a job may run out of
-- memory instead, once its input is in memory.
use Rattle.std.specs.Prelude.{◌≡◌, ◌⊎◌, ℕ, List, [], ◌∷◌, ◌++◌, flat_map, codes, decimal}
use Rattle.std.specs.Prelude.{Option, Some, None, Result, Ok, Err, IsOk}
use Rattle.crib_cards.specs.declared.sides.Scores.{Scores}
use Rattle.crib_cards.specs.Words.{side_word}
use Rattle.crib_text.specs.Refusals.{Refusal, no_memory}
use Rattle.crib_text.specs.Spelling.{line_text}
use Rattle.crib_show.specs.declared.show.outcomes.ShowRow.{ShowRow}
use Rattle.crib_show.specs.Words.{outcome_word, show_word}
use Rattle.crib_game.specs.declared.following.ending.Ending.{Ending}
use Rattle.crib_game.specs.declared.following.ending.Ending.TheVariants as ending
use Rattle.crib_game.specs.declared.replaying.report.Report.{Report}
use Rattle.crib_game.specs.Words.{ending_word}
use Rattle.crib_answer.specs.declared.job.Job.{Job}
use Rattle.crib_answer.specs.declared.job.Job.TheVariants.{Replay, Follow, Check, Solve, Board}
use Rattle.crib_run.specs.declared.status.Status.{Status}
use Rattle.crib_run.specs.declared.status.Status.TheVariants.{Yes, No}
use Rattle.crib_run.specs.Reply.{Reply, fault_reply, refusal_reply}
use Rattle.crib_input.specs.Input.{problem_of_input, question_of_input}
use Rattle.crib_input.specs.Memory.{count_of_input}
use Rattle.crib_answer.specs.Input.{board_of_input, ending_of_input, report_of_input}
use Rattle.crib_problem.specs.Setup.{Setup}
use Rattle.crib_plan.specs.declared.plan.Node.{Node}
use Rattle.crib_plan.specs.Nodes.{most_nodes}
use Rattle.crib_plan.specs.Spelling.{plan_text}
use Rattle.crib_game.specs.Spelling.{game_text}
use Rattle.crib_search.specs.Finder.{IsFound, ExceedsLimit}
use Rattle.crib_check.specs.declared.verdict.Verdict.{Verdict}
use Rattle.crib_check.specs.declared.verdict.Verdict.TheVariants.{Holds, Fails}
use Rattle.crib_check.specs.Verdicts.{IsRight}

-- both scores as words: the owner's, and then the opponent's
abbrev pub score_words : Scores → List (List ℕ)
score_words scores = decimal scores.owner ∷ decimal scores.opponent ∷ []

-- the line of a counted hand or of the crib: which of the two it is, its side, its points, and the scores after it
unfoldable pub counted_line : ShowRow → List ℕ
counted_line row = line_text (show_word row.crib ∷ side_word row.side ∷ decimal row.points ∷ score_words row.scores)

-- the line of the scores after the last act
unfoldable pub play_line : Scores → List ℕ
play_line scores = line_text (codes "play" ∷ score_words scores)

-- the reply to a replayed game: the scores after the last act, the counted hands and crib, and the outcome or `open`
abbrev pub report_reply : Report → Reply
report_reply report = record {
  output = play_line report.scores ++ flat_map counted_line report.show.items
      ++ line_text (outcome_word report.over ∷ []);
  status = Yes;
}

-- the status of an ending: yes if the owner reached the goal, and no otherwise
abbrev pub ending_status : Ending → Status
ending_status ending.Open = No
ending_status ending.Stuck = No
ending_status ending.Lost = No
ending_status ending.Short = No
ending_status ending.Reached = Yes

-- the reply to a game and a plan, by the ending of the game under the plan
abbrev pub ending_reply : Ending → Reply
ending_reply result = record { output = line_text (ending_word result ∷ []); status = ending_status result }

-- the reply to a verdict: `holds`, or `fails` with the ending and the game
abbrev pub verdict_reply : Verdict → Reply
verdict_reply Holds = record { output = line_text (codes "holds" ∷ []); status = Yes }
verdict_reply (Fails result game) = record {
  output = line_text (codes "fails" ∷ ending_word result ∷ []) ++ game_text game;
  status = No;
}

-- a reply is right for `check`, by what was read: it is that of a right verdict on the problem and the plan, or that of
-- the refusal
abbrev pub AnswersCheck : Result (Setup × List Node) Refusal → Reply → Type 0
AnswersCheck (Ok question) reply =
    (verdict : Verdict) × IsRight question.0 question.1 verdict × (reply ≡ verdict_reply verdict)
AnswersCheck (Err refusal) reply = reply ≡ refusal_reply refusal

-- the reply to what the finder finds: the plan, or `none`
abbrev pub found_reply : Option (List Node) → Reply
found_reply (Some plan) = record { output = plan_text plan; status = Yes }
found_reply None = record { output = line_text (codes "none" ∷ []); status = No }

-- the fault "the plan that was found has too many nodes"
abbrev pub too_large : ℕ
too_large = 50

-- a reply is right for a problem: it is that of what the finder finds, or a fault if the plan that was found has more
-- nodes than a plan may have
abbrev pub AnswersProblem : Setup → Reply → Type 0
AnswersProblem problem reply =
    ((plan : Option (List Node)) × IsFound problem plan × (¬ ExceedsLimit problem most_nodes)
    × (reply ≡ found_reply plan))
    ⊎ (ExceedsLimit problem most_nodes × (reply ≡ fault_reply too_large))

-- a reply is right for `solve`, by what was read: it is right for the problem, or it is that of the refusal
abbrev pub AnswersSolve : Result Setup Refusal → Reply → Type 0
AnswersSolve (Ok problem) reply = AnswersProblem problem reply
AnswersSolve (Err refusal) reply = reply ≡ refusal_reply refusal

-- the reply with a board: its text, and the status yes
abbrev pub board_reply : List ℕ → Reply
board_reply board = record { output = board; status = Yes }

-- the reply to what was read: that of the value, or that of the refusal
abbrev pub reply_by : {A : Type 0} → (A → Reply) → Result A Refusal → Reply
reply_by reply (Ok value) = reply value
reply_by reply (Err refusal) = refusal_reply refusal

-- a reply is the right one of a job to an input
abbrev pub Answers : Job → List ℕ → Reply → Type 0
Answers Replay input reply = reply ≡ reply_by report_reply (report_of_input input)
Answers Follow input reply = reply ≡ reply_by ending_reply (ending_of_input input)
Answers Check input reply = AnswersCheck (question_of_input input) reply
Answers Solve input reply = AnswersSolve (problem_of_input input) reply
Answers Board input reply = reply ≡ reply_by board_reply (board_of_input input)

-- a job may allocate memory for an input: `replay` never, `follow` and `check` if the problem and the first two lines
-- of the plan are not refused, `solve` and `board` if the input is not refused
abbrev pub AsksForMemory : Job → List ℕ → Type 0
AsksForMemory Replay input = ⊥
AsksForMemory Follow input = IsOk (count_of_input input)
AsksForMemory Check input = IsOk (count_of_input input)
AsksForMemory Solve input = IsOk (problem_of_input input)
AsksForMemory Board input = IsOk (board_of_input input)

-- a reply is one that a job makes for an input in memory: it is the right one, or it is the fault of a failed
-- allocation and the job may allocate memory
abbrev pub Makes : Job → List ℕ → Reply → Type 0
Makes job input reply =
    Answers job input reply ⊎ (AsksForMemory job input × (reply ≡ fault_reply no_memory))
