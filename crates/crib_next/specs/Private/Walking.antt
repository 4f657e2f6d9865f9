-- The problem with the turns so far in its opening, and the place of the plan.
use Rattle.std.specs.Prelude.{◌≡◌, ℕ, ◌+◌, List}
use Rattle.crib_cards.specs.declared.moves.Act.{Act}
use Rattle.crib_text.specs.Refusals.{Refusal}
use Rattle.crib_problem.specs.Setup.{Setup, IsSetup, at_lead, played_back}
use Rattle.crib_plan.specs.declared.plan.Next.{Next}
use Rattle.crib_plan.specs.declared.plan.Node.{Node}
use Rattle.crib_input.specs.Refusals.{game_fault_of, input_cause_number}
use Rattle.crib_next.specs.Next.{acts_with, place_with, turn_fault}
use Rattle.crib_next.specs.declared.walk.WrongTurn.{WrongTurn}

-- a problem has some turns more than another in its opening, which ends before the deal, and the plan is at this place
pub record IsAfter (problem : Setup) (plan : List Node) (before : List Act) (at : Setup) (place : Next) : Type 0 where
  pub setup : IsSetup at
  pub same : at_lead at ≡ at_lead problem
  pub acts : played_back at ≡ acts_with problem before
  pub stands : place ≡ place_with problem plan before

-- the refusal of a wrong turn, by the line at which the section of the turns begins
abbrev pub wrong_line : ℕ → WrongTurn → Refusal
wrong_line first wrong = record { line = first + wrong.number; number = input_cause_number wrong.cause }

-- the cause of a wrong turn is a fault of a game exactly if its number is that of one
abbrev pub HasCause : WrongTurn → Type 0
HasCause wrong = game_fault_of wrong.cause ≡ turn_fault wrong.number (input_cause_number wrong.cause)
