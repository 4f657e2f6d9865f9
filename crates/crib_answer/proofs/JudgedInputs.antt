-- What `replay`, `board` and `follow` read in an input that spells a game, and what an input spells in which they read something.
use Rattle.std.proofs.Common.{◌≡◌, ℕ, List, Result, Ok, Err, refl, ap}
use Rattle.crib_text.proofs.ReadingLemmas.{bind_ok}
use Rattle.crib_problem.specs.Setup.{Setup}
use Rattle.crib_plan.specs.declared.plan.Node.{Node}
use Rattle.crib_game.specs.declared.following.ending.Ending.{Ending}
use Rattle.crib_game.specs.declared.fault.GameFault.{GameFault}
use Rattle.crib_game.specs.declared.section.game.Game.{Game}
use Rattle.crib_game.specs.declared.replaying.report.Report.{Report}
use Rattle.crib_game.specs.Followed.{follow_result}
use Rattle.crib_game.specs.Replay.{replay_result}
use Rattle.crib_board.specs.Board.{board_text}
use Rattle.crib_input.specs.Input.{played_of_input, played_under_of_input}
use Rattle.crib_input.specs.Spelled.{SpellsGame, SpellsPlannedGame}
use Rattle.crib_input.proofs.GameInputs.{played_accepted, played_spelled, played_under_accepted, played_under_spelled}
use Rattle.crib_answer.specs.Input.{judgement_of, report_of_input, ending_of_input, board_of_input}

judged_ok : {A : Type 0} (game : Game) (first : ℕ) (given : Result A GameFault) (value : A) → judgement_of game first given ≡ Ok value → given ≡ Ok value
judged_ok game first (Ok one) value e = let same : one ≡ value = cc in ap Ok same
judged_ok game first (Err fault) value e = absurd cc

-- ---- a problem and a game

-- if an input spells a problem and a game, `replay` reads the report of the game, and `board` its board
pub report_spelled : (input : List ℕ) (problem : Setup) (game : Game) (report : Report) → SpellsGame input problem game → replay_result problem game ≡ Ok report
    → report_of_input input ≡ Ok report
unfolding report_of_input
report_spelled input problem game report spelled e = let read = played_spelled input problem game spelled in rw (read.1, e) refl

pub board_spelled : (input : List ℕ) (problem : Setup) (game : Game) (board : List ℕ) → SpellsGame input problem game → board_text problem game ≡ Ok board
    → board_of_input input ≡ Ok board
unfolding board_of_input
board_spelled input problem game board spelled e = let read = played_spelled input problem game spelled in rw (read.1, e) refl

-- if `replay` reads a report, the input spells a problem and a game with this report
pub report_accepted : (input : List ℕ) (report : Report) → report_of_input input ≡ Ok report
    → (problem : Setup) × (game : Game) × SpellsGame input problem game × (replay_result problem game ≡ Ok report)
unfolding report_of_input
report_accepted input report e =
    let a = bind_ok (played_of_input input) _ report e in
    (a.0.0, a.0.1, played_accepted input a.0 a.1, judged_ok a.0.1 a.0.2 (replay_result a.0.0 a.0.1) report a.2)

-- ---- a problem, a plan and a game

-- if an input spells a problem, a plan and a game, `follow` reads the ending of the game
pub ending_spelled : (input : List ℕ) (problem : Setup) (plan : List Node) (game : Game) (result : Ending) → SpellsPlannedGame input problem plan game
    → follow_result problem plan game ≡ Ok result → ending_of_input input ≡ Ok result
unfolding ending_of_input
ending_spelled input problem plan game result spelled e = let read = played_under_spelled input problem plan game spelled in rw (read.1, e) refl

-- if `follow` reads an ending, the input spells a problem, a plan and a game with this ending
pub ending_accepted : (input : List ℕ) (result : Ending) → ending_of_input input ≡ Ok result
    → (problem : Setup) × (plan : List Node) × (game : Game) × SpellsPlannedGame input problem plan game × (follow_result problem plan game ≡ Ok result)
unfolding ending_of_input
ending_accepted input result e =
    let a = bind_ok (played_under_of_input input) _ result e in
    (a.0.0, a.0.1, a.0.2, played_under_accepted input a.0 a.1, judged_ok a.0.2 a.0.3 (follow_result a.0.0 a.0.1 a.0.2) result a.2)
