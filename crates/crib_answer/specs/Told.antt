-- The reasons that are given for an input without an answer.
use Rattle.std.specs.Prelude.{ℕ, List, Option, None}
use Rattle.crib_board.specs.Board.{board_text}
use Rattle.crib_game.specs.declared.fault.GameFault.{GameFault}
use Rattle.crib_game.specs.Followed.{follow_result}
use Rattle.crib_game.specs.Replay.{replay_result}
use Rattle.crib_input.specs.declared.reason.Reason.{Reason}
use Rattle.crib_input.specs.Input.{played_of_input, played_under_of_input}
use Rattle.crib_input.specs.Refusals.{FitsFault, fault_found}
use Rattle.crib_answer.specs.declared.job.Job.{Job}
use Rattle.crib_answer.specs.declared.job.Job.TheVariants.{Replay, Follow, Check, Solve, Board}

-- the fault for which a job refuses the game of an input that is read, if there is one
abbrev pub game_fault_in : Job → List ℕ → Option GameFault
game_fault_in Replay input =
    fault_found (λ (problem, game, first). replay_result problem game) (played_of_input input)
game_fault_in Follow input =
    fault_found (λ (problem, plan, game, first). follow_result problem plan game) (played_under_of_input input)
game_fault_in Check input = None
game_fault_in Solve input = None
game_fault_in Board input = fault_found (λ (problem, game, first). board_text problem game) (played_of_input input)

-- a reason may be given for an input: it fits the fault of its game
abbrev pub Tells : Job → List ℕ → Reason → Type 0
Tells job input reason = FitsFault (game_fault_in job input) reason
