-- The refusals of an input: the number of each cause, and the refusal as it is printed.
use Rattle.std.specs.Prelude.{◌≡◌, ◌≢◌, ℕ, List, Option, Some, None, Result, Ok, Err, codes}
use Rattle.std.specs.Result.{result_err}
use Rattle.crib_text.specs.declared.fault.Fault.{Fault}
use Rattle.crib_text.specs.Refusals as texts
use Rattle.crib_text.specs.Refusals.{Refusal, no_memory, read_fault}
use Rattle.crib_problem.specs.Refusals.{problem_cause_number}
use Rattle.crib_plan.specs.Refusals.{plan_cause_number}
use Rattle.crib_game.specs.Refusals.{game_fault_number}
use Rattle.crib_plan.specs.declared.fault.PlanCause.{PlanCause}
use Rattle.crib_game.specs.declared.fault.GameFault.{GameFault}
use Rattle.crib_input.specs.declared.refusal.Cause.{Cause}
use Rattle.crib_input.specs.declared.refusal.Cause.TheVariants.{Text, Problem, Plan, Game}
use Rattle.crib_input.specs.declared.refusal.Refusal as refusals
use Rattle.crib_input.specs.declared.reason.FaultCause.{FaultCause}
use Rattle.crib_input.specs.declared.reason.FaultCause.TheVariants.{ReadFailed, WriteFailed, NoMemory, TooLarge}
use Rattle.crib_input.specs.declared.reason.Reason.{Reason}
use Rattle.crib_input.specs.declared.reason.Reason.TheVariants as reasons

-- the number of a cause
abbrev pub input_cause_number : Cause → ℕ
input_cause_number (Text cause) = texts.cause_number cause
input_cause_number (Problem cause) = problem_cause_number cause
input_cause_number (Plan cause) = plan_cause_number cause
input_cause_number (Game fault) = game_fault_number fault

-- a refusal as it is printed: its line and its number
abbrev pub refusal_of : refusals.Refusal → Refusal
refusal_of refusal = record { line = refusal.line; number = input_cause_number refusal.cause }

-- the fault of a game, if it is the cause of a refusal
abbrev pub game_fault_of : Cause → Option GameFault
game_fault_of (Text cause) = None
game_fault_of (Problem cause) = None
game_fault_of (Plan cause) = None
game_fault_of (Game fault) = Some fault

-- the fault of a game in what was read, as `judge` finds it, and none if nothing was read
abbrev pub fault_found : {X Y : Type 0} → (X → Result Y GameFault) → Result X Refusal → Option GameFault
fault_found judge (Ok value) = result_err (judge value)
fault_found judge (Err refusal) = None

-- the number of a fault
abbrev pub fault_number : FaultCause → ℕ
fault_number ReadFailed = read_fault
fault_number WriteFailed = 10
fault_number NoMemory = no_memory
fault_number TooLarge = 50

-- a fault in words
abbrev pub fault_words : FaultCause → List ℕ
fault_words ReadFailed = codes "the input can't be read"
fault_words WriteFailed = codes "the answer can't be written"
fault_words NoMemory = codes "out of memory"
fault_words TooLarge = codes "the plan that was found has too many nodes"

-- a result agrees with what was read: its value, seen through `view`, is the one that was read, or it has the same
-- refusal. The only fault of reading is that an allocation failed
abbrev pub ReadsAs : {X Y : Type 0} → (X → Y) → Result X Reason → Result Y Refusal → Type 0
ReadsAs view (Ok value) said = said ≡ Ok (view value)
ReadsAs view (Err (reasons.Refused refusal)) said = said ≡ Err (refusal_of refusal)
ReadsAs view (Err (reasons.Fault cause)) said = cause ≡ NoMemory

-- a reason fits the fault of an input's game: a refusal has this fault as its cause, or if there is none, a cause of
-- another section
abbrev pub FitsFault : Option GameFault → Reason → Type 0
FitsFault fault (reasons.Refused refusal) = game_fault_of refusal.cause ≡ fault
FitsFault fault (reasons.Fault cause) = Unit {0}

-- an input was not read because of a fault of its plan: an allocation failed if the fault has the number `no_memory`,
-- and otherwise the input is refused for the cause of the fault
abbrev pub IsForPlan : Fault PlanCause → Reason → Type 0
IsForPlan fault (reasons.Refused refusal) =
    (refusal ≡ record { line = fault.line; cause = Plan fault.cause }) × (plan_cause_number fault.cause ≢ no_memory)
IsForPlan fault (reasons.Fault cause) = (cause ≡ NoMemory) × (plan_cause_number fault.cause ≡ no_memory)
