-- The report of a game, which makes the replies of both `replay` and `board`.
use Rattle.std.specs.Prelude.{◌≡◌, ℕ, List, [], ◌∷◌, map}
use Rattle.crib_cards.specs.declared.sides.Scores.{Scores}
use Rattle.crib_problem.specs.Setup.{Setup}
use Rattle.crib_game.specs.declared.section.game.Game.{Game}
use Rattle.crib_game.specs.declared.replaying.report.Report.{Report}
use Rattle.crib_game.specs.declared.replaying.report.Row.{Row}
use Rattle.crib_board.specs.Board.{board_of}
use Rattle.crib_answer.specs.declared.job.Job.TheVariants.{Replay, Board}
use Rattle.crib_answer.specs.Answer.{Answers, board_reply, report_reply}
use Rattle.crib_input.specs.Spelled.{SpellsGame}

-- the scores after the last of some rows, or the first scores if there is no row
abbrev pub last_scores : Scores → List Row → Scores
last_scores first [] = first
last_scores first (row ∷ rows) = last_scores row.scores rows

-- an input spells a problem and a game, and one report makes the right replies of `replay` and `board` to it. The
-- report has a row for each act of the game, and its scores are those after the last row
pub record IsReported (input : List ℕ) (problem : Setup) (game : Game) : Type 0 where
  pub report : Report
  pub spelled : SpellsGame input problem game
  pub acts : map (λ (row : Row). row.act) report.rows.items ≡ game.acts.items
  pub scores : report.scores ≡ last_scores problem.scores report.rows.items
  pub replayed : Answers Replay input (report_reply report)
  pub drawn : Answers Board input (board_reply (board_of problem report))
