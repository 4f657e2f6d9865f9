-- What an input with turns spells, and what comes next after them.
use Rattle.std.specs.Prelude.{◌≡◌, ℕ, ◌+◌, ◌-◌, List, [], ◌++◌, Option, None, Result, Ok, Err}
use Rattle.crib_cards.specs.declared.moves.Act.{Act}
use Rattle.crib_text.specs.Refusals.{Refusal}
use Rattle.crib_text.specs.Reading.{◌>>=◌, Rest, end_at}
use Rattle.crib_problem.specs.Reading.{problem_at}
use Rattle.crib_problem.specs.Setup.{Setup, IsSetup}
use Rattle.crib_problem.specs.Spelling.{problem_text}
use Rattle.crib_plan.specs.declared.plan.Node.{Node}
use Rattle.crib_plan.specs.Nodes.{ArePlan}
use Rattle.crib_plan.specs.Reading.{plan_at}
use Rattle.crib_plan.specs.Spelling.{plan_text}
use Rattle.crib_game.specs.declared.fault.GameFault.{GameFault}
use Rattle.crib_input.specs.Input.{input_lines}
use Rattle.crib_next.specs.Section.{AreTurns, turns_at, turns_text}
use Rattle.crib_next.specs.Next.{next_from, turn_fault}
use Rattle.crib_next.specs.declared.next.NextTurn.{NextTurn}

-- the problem, the plan and the turns that the lines spell, and the line at which the section of the turns begins, or
-- the first refusal. No line may be left
unfoldable pub next_question_at : Rest → Result (Setup × List Node × List Act × ℕ) Refusal
next_question_at rest = do
  problem ← problem_at rest
  plan ← plan_at problem.1
  turns ← turns_at plan.1
  _ ← end_at turns.1
  Ok (problem.0, plan.0, turns.0, plan.1.number)

-- the same of an input
unfoldable pub next_question_of_input : List ℕ → Result (Setup × List Node × List Act × ℕ) Refusal
next_question_of_input bytes = input_lines bytes >>= next_question_at

-- what comes next after the turns that were read, or the refusal of the first wrong one
abbrev pub next_of_question : Setup × List Node × List Act × ℕ → Result NextTurn Refusal
next_of_question (problem, plan, turns, first) = next_from problem plan (first + 1) [] turns

-- the fault of a game for which a turn is refused, if what comes next is such a refusal. The turns begin behind line
-- `first`
abbrev pub fault_of_next : ℕ → Result NextTurn Refusal → Option GameFault
fault_of_next first (Ok next) = None
fault_of_next first (Err refusal) = turn_fault (refusal.line - first) refusal.number

-- the same by what was read, and none if nothing was
abbrev pub fault_of_question : Result (Setup × List Node × List Act × ℕ) Refusal → Option GameFault
fault_of_question (Ok (problem, plan, turns, first)) =
    fault_of_next first (next_of_question (problem, plan, turns, first))
fault_of_question (Err refusal) = None

-- an input spells a problem, a plan and turns: it is their texts, one after the other, and nothing else
pub record SpellsTurns (input : List ℕ) (problem : Setup) (plan : List Node) (turns : List Act) : Type 0 where
  pub problem_is : IsSetup problem
  pub plan_is : ArePlan plan
  pub turns_are : AreTurns turns
  pub text : input ≡ problem_text problem ++ plan_text plan ++ turns_text turns
