-- Worked examples of what the jobs read in an input, and of when they may ask for memory.
use Rattle.std.proofs.Common.{arith, ◌≡◌, ◌∙◌, refl, sym, ap, subst, inl, inr, false, ℕ, List, [], ◌∷◌, ◌++◌, codes, length, map, Result, Ok, Err}
use Rattle.std.proofs.lemmas.Bool.{both_ways}
use Rattle.std.specs.Fmt.{digits}
use Rattle.crib_text.specs.Reading.{◌>>=◌}
use Rattle.crib_text.specs.Refusals.{Refusal}
use Rattle.crib_board.specs.Board.{board_of, right_in, row_line, row_lines, score_columns, track_line, track_lines}
use Rattle.crib_game.specs.declared.following.ending.Ending.TheVariants as ending
use Rattle.crib_input.proofs.InputReaders.{read_count, read_played, read_played_under, read_problem, read_question, refused}
use Rattle.crib_run.specs.declared.status.Status.TheVariants.{Yes, No, Refused, Fault}
use Rattle.crib_run.specs.Reply.{Reply}
use Rattle.crib_answer.specs.declared.job.Job.TheVariants.{Replay, Check, Solve, Board, Follow}
use Rattle.crib_answer.specs.Answer.{Answers, AsksForMemory, Makes, board_reply, play_line, report_reply}
use Rattle.crib_cards.specs.declared.sides.Side.TheVariants.{Owner}
use Rattle.crib_cards.specs.declared.moves.Move.TheVariants.{Go}
use Rattle.crib_game.specs.declared.fault.GameFault.TheVariants.{NotAsPlayed}
use Rattle.crib_game.specs.declared.section.game.Game.{Game}
use Rattle.crib_cards.specs.declared.sides.Scores.{Scores}
use Rattle.crib_game.specs.declared.replaying.report.Row.{Row}
use Rattle.crib_problem.specs.Setup.{Setup}
use Rattle.crib_problem.specs.Spelling.{problem_lines, problem_text}
use Rattle.crib_answer.specs.Reported.{IsReported, last_scores}
use Rattle.crib_plan.specs.declared.plan.Node.{Node}
use Rattle.crib_input.specs.Spelled.{SpellsPlan, SpellsProblem}
use Rattle.crib_answer.specs.Meaning.{CheckMeans, SolveMeans}
use Rattle.crib_answer.specs.Input.{board_of_input, ending_of_input, judgement_of, report_of_input}
use Rattle.crib_answer.specs.Job.{name_of}

-- ---- the sections: a problem of seven lines, a plan of three, and a game of five
abbrev problem_section : List ℕ
problem_section = codes "problem 1\ndealer opponent\nscore 0 0\nstarter KD\nhold 2C 2D 2H 2S\nthrow 4C 6D\ngoal holes 13\n"

abbrev plan_section : List ℕ
plan_section = codes "plan 1\nnodes 1\n0 play 2C end\n"

abbrev game_section : List ℕ → List ℕ
game_section act = codes "game 1\nhold AC AD AH AS\nthrow 3C 3D\nacts 1\n" ++ act ++ codes "\n"

-- ---- a game is judged against its problem and its plan, and refused at the line of its act
-- how many rows the report of an input has
abbrev rows_in : List ℕ → Result ℕ Refusal
rows_in input = report_of_input input >>= λ report. Ok (length report.rows.items)

-- the reading of the whole input comes before the judgement of the game
pub rows_of_reports : map (λ act. rows_in (problem_section ++ game_section act)) (codes "own KC" ∷ codes "own 2C" ∷ codes "own KC\n" ∷ [])
    ≡ refused 12 41 ∷ Ok 1 ∷ refused 13 8 ∷ []
unfolding read_played report_of_input
rows_of_reports = refl

pub board_of_a_card_not_held : board_of_input (problem_section ++ game_section (codes "own KC")) ≡ refused 12 41
unfolding read_played board_of_input
board_of_a_card_not_held = refl

-- the first card strays from the plan
pub endings_of_games : map (λ act. ending_of_input (problem_section ++ plan_section ++ game_section act)) (codes "own 2D" ∷ codes "own 2C" ∷ [])
    ≡ refused 15 46 ∷ Ok ending.Open ∷ []
unfolding read_played_under ending_of_input
endings_of_games = refl

-- ---- memory: `check` and `follow` may ask for it once the number of nodes is read, whatever the lines after it are
pub check_and_follow_ask : AsksForMemory Check (problem_section ++ codes "plan 1\nnodes 1\nx\n")
    × AsksForMemory Follow (problem_section ++ codes "plan 1\nnodes 1\nx\n")
    × (AsksForMemory Check (problem_section ++ codes "plan 1\nnodes 65536\n") → ⊥) × (AsksForMemory Follow problem_section → ⊥)
unfolding read_count
check_and_follow_ask = (refl, refl, λ asks. absurd (both_ways false refl asks), λ asks. absurd (both_ways false refl asks))

-- `solve` and `board` ask for it only if the whole input is not refused
pub solve_and_board_ask : AsksForMemory Solve problem_section × (AsksForMemory Solve (problem_section ++ plan_section) → ⊥)
    × AsksForMemory Board (problem_section ++ game_section (codes "own 2C")) × (AsksForMemory Board (problem_section ++ game_section (codes "own KC")) → ⊥)
unfolding read_problem read_played board_of_input
solve_and_board_ask = (refl, λ asks. absurd (both_ways false refl asks), refl, λ asks. absurd (both_ways false refl asks))

-- ---- the right replies to an empty input, and to a game that is open under its plan
abbrev cut_short_at_1 : Reply
cut_short_at_1 = record { output = codes "refused line 1: 3\n"; status = Refused }

pub replies_to_nothing : Answers Replay [] cut_short_at_1 × Answers Follow [] cut_short_at_1 × Answers Check [] cut_short_at_1
    × Answers Solve [] cut_short_at_1 × Answers Board [] cut_short_at_1
unfolding read_played read_played_under read_question read_problem report_of_input ending_of_input board_of_input digits
replies_to_nothing = (refl, refl, refl, refl, refl)

-- `check` of a bad node, `solve` of a problem and a plan, and a game of one act
pub replies_by_job : Answers Check (problem_section ++ codes "plan 1\nnodes 1\nx\n") (record { output = codes "refused line 10: 4\n"; status = Refused })
    × Answers Solve (problem_section ++ plan_section) (record { output = codes "refused line 8: 8\n"; status = Refused })
    × Answers Follow (problem_section ++ plan_section ++ game_section (codes "own 2C")) (record { output = codes "open\n"; status = No })
    × Answers Replay (problem_section ++ game_section (codes "own 2C")) (record { output = codes "play 0 0\nopen\n"; status = Yes })
unfolding read_question read_problem read_played read_played_under ending_of_input report_of_input digits play_line
replies_by_job = (refl, refl, refl, refl)

pub board_of_one_act : Answers Board (problem_section ++ game_section (codes "own 2C")) (record {
  output =
      codes "board 1\n## side     cd ct pt own opp\n 1 owner    2C  2  0   0   0\nopen\nowner      1 ..............................\n"
      ++ codes "owner     31 ..............................\nowner     61 ..............................\n"
      ++ codes "owner     91 ...............................\nopponent   1 ..............................\n"
      ++ codes "opponent  31 ..............................\nopponent  61 ..............................\n"
      ++ codes "opponent  91 ...............................\n";
  status = Yes;
})
unfolding read_played board_of_input digits right_in score_columns row_line row_lines track_line track_lines
board_of_one_act = refl

-- ---- a job makes the right reply, or the fault of a failed allocation if it may ask for memory
abbrev fault_11 : Reply
fault_11 = record { output = codes "fault 11\n"; status = Fault }

pub check_makes : Makes Check (problem_section ++ plan_section) fault_11 × Makes Check [] cut_short_at_1
unfolding read_count read_question digits
check_makes = (inr (refl, refl), inl refl)

pub replay_never_runs_out_of_memory : Makes Replay [] fault_11 → ⊥
unfolding read_played report_of_input digits
replay_never_runs_out_of_memory (inl right) = (let status : Fault ≡ Refused = ap (λ (reply : Reply). reply.status) right in absurd cc)
replay_never_runs_out_of_memory (inr memory) = memory.0

pub a_fault_is_written : Makes Solve problem_section (record { output = []; status = Fault }) →
    Answers Solve problem_section (record { output = []; status = Fault })
a_fault_is_written (inl right) = right
a_fault_is_written (inr memory) = (let text = ap (λ (reply : Reply). reply.output) memory.1 in absurd cc)

-- ---- names
pub names_of_jobs : map name_of (Replay ∷ Follow ∷ Check ∷ Solve ∷ Board ∷ [])
    ≡ codes "replay" ∷ codes "follow" ∷ codes "check" ∷ codes "solve" ∷ codes "board" ∷ []
names_of_jobs = refl

-- ---- a refused input spells nothing, whatever the text is
pub refused_inputs : (text : List ℕ) →
    (((problem : Setup) (plan : List Node) → SpellsPlan (codes "aab") problem plan → ⊥) → CheckMeans (codes "aab") text Refused)
    × (((problem : Setup) → SpellsProblem (codes "aab") problem → ⊥) → SolveMeans (codes "aab") text Refused)
refused_inputs text = ((λ none. none), λ none. none)

pub spelled_inputs : (input text : List ℕ) (problem : Setup) (plan : List Node) → SpellsPlan input problem plan × SpellsProblem input problem →
    (CheckMeans input text Refused → ⊥) × (SolveMeans input text Refused → ⊥)
spelled_inputs input text problem plan spelled = ((λ none. none problem plan spelled.0), λ none. none problem spelled.1)

abbrev two_acts : Game
two_acts = record {
  opp = record { hold = 0 ∷ 1 ∷ 2 ∷ 3 ∷ []; throw = 8 ∷ 9 ∷ [] };
  acts = record { items = record { side = Owner; what = Go } ∷ record { side = Owner; what = Go } ∷ [] };
}

-- the line of a missing act is that of `acts`, by the number of acts of the game
pub line_of_a_missing_act :
    judgement_of {A = ℕ} two_acts 8 (Err (NotAsPlayed 3)) ∷ judgement_of two_acts 8 (Err (NotAsPlayed 2)) ∷ judgement_of two_acts 8 (Ok 5) ∷ []
    ≡ refused 11 47 ∷ refused 13 47 ∷ Ok 5 ∷ []
line_of_a_missing_act = refl

pub board_as_it_is : board_reply (codes "bab\n") ≡ record { output = codes "bab\n"; status = Yes }
board_as_it_is = refl

-- ---- the scores after the last row, or the first scores
abbrev a_row : ℕ → Row
a_row points = record { act = record { side = Owner; what = Go }; count = 30; points = 1; scores = record { owner = points; opponent = 70 } }

pub scores_after_rows : map (last_scores (record { owner = 60; opponent = 70 })) ((a_row 61 ∷ a_row 62 ∷ a_row 61 ∷ a_row 63 ∷ []) ∷ [] ∷ [])
    ≡ record { owner = 63; opponent = 70 } ∷ record { owner = 60; opponent = 70 } ∷ []
scores_after_rows = refl

-- one report makes the replies of `replay` and of `board`
pub reported_scores : (input : List ℕ) (problem : Setup) (game : Game) (is : IsReported input problem game) → is.report.rows.items ≡ [] →
    problem.scores.owner ≡ 61 → is.report.scores.owner ≡ 60 → ⊥
reported_scores input problem game is none first last =
    (let same : is.report.scores ≡ last_scores problem.scores [] =
    subst (λ rows. is.report.scores ≡ last_scores problem.scores rows) none is.scores in
    let score : 60 ≡ 61 = sym last ∙ ap (λ (scores : Scores). scores.owner) same ∙ first in
    absurd (omega (arith, score)))

pub reported_acts : (input : List ℕ) (problem : Setup) (is : IsReported input problem two_acts) → is.report.rows.items ≡ [] → ⊥
reported_acts input problem is none =
    (let acts : 0 ≡ 2 = ap (λ rows. length (map (λ (row : Row). row.act) rows)) (sym none) ∙ ap length is.acts in absurd (omega (arith, acts)))

pub reported_input : (problem : Setup) (game : Game) → IsReported [] problem game → ⊥
unfolding problem_text problem_lines
reported_input problem game is = (let text = is.spelled.text in cc)

pub reported_replies : (input : List ℕ) (problem : Setup) (game : Game) (is : IsReported input problem game) →
    Answers Board input (board_reply (board_of problem is.report)) × Answers Replay input (report_reply is.report)
reported_replies input problem game is = (is.drawn, is.replayed)
