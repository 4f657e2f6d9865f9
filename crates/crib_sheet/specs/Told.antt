-- The reasons that are given for an input without a sheet.
use Rattle.std.specs.Prelude.{ℕ, List, Option, None}
use Rattle.crib_game.specs.declared.fault.GameFault.{GameFault}
use Rattle.crib_game.specs.Replay.{replay_result}
use Rattle.crib_input.specs.declared.reason.Reason.{Reason}
use Rattle.crib_input.specs.Input.{played_of_input}
use Rattle.crib_input.specs.Refusals.{FitsFault, fault_found}
use Rattle.crib_next.specs.Input.{fault_of_question, next_question_of_input}
use Rattle.crib_sheet.specs.declared.answer.job.SheetJob.{SheetJob}
use Rattle.crib_sheet.specs.declared.answer.job.SheetJob.TheVariants.{Plan, Game, Beaten, Try, Refute, Why, Leads, Next}
use Rattle.crib_sheet.specs.declared.answer.job.SheetJob.TheVariants.{Scores, Holes}

-- the fault of a game for which a job refuses an input, if there is one: the other inputs have no game or turns
abbrev pub sheet_fault_in : SheetJob → List ℕ → Option GameFault
sheet_fault_in Plan input = None
sheet_fault_in Game input =
    fault_found (λ (problem, game, first). replay_result problem game) (played_of_input input)
sheet_fault_in Beaten input = None
sheet_fault_in Try input = None
sheet_fault_in Refute input = None
sheet_fault_in Why input = None
sheet_fault_in Leads input = None
sheet_fault_in Next input = fault_of_question (next_question_of_input input)
sheet_fault_in Scores input = None
sheet_fault_in Holes input = None

-- a reason may be given for an input: it fits the fault of its game
abbrev pub SheetTells : SheetJob → List ℕ → Reason → Type 0
SheetTells job input reason = FitsFault (sheet_fault_in job input) reason
