-- Worked examples of whole inputs: what their bytes are read as, how they are refused, and what they spell. A card is a number below 52: 4 is 2C.
use Rattle.std.specs.Prelude.{◌≡◌, refl, ◌+◌, nat_le, ℕ, List, [], ◌∷◌, ◌++◌, length, map, Option, Some, None, Result, Ok, Err, codes, if◌then◌else◌}
use Rattle.std.proofs.Common.{arith, ◌≤◌, sym, ap, subst}
use Rattle.std.specs.Fmt.{digits}
use Rattle.crib_cards.specs.declared.sides.Side.TheVariants.{Owner}
use Rattle.crib_text.specs.Refusals.{Refusal}
use Rattle.crib_text.specs.declared.fault.TextCause.TheVariants as texts
use Rattle.crib_problem.specs.declared.fault.ProblemCause.TheVariants.{BadGoal}
use Rattle.crib_problem.specs.declared.fault.ProblemCause.TheVariants as problems
use Rattle.crib_problem.specs.Setup.{Setup, IsSetup}
use Rattle.crib_problem.specs.Spelling.{problem_lines, problem_text}
use Rattle.crib_problem.proofs.ExampleProblems.{plays, after_two, aces}
use Rattle.crib_plan.specs.declared.fault.PlanCause.TheVariants as plans
use Rattle.crib_plan.specs.declared.fault.PlanCause.{PlanCause}
use Rattle.crib_text.specs.declared.fault.Fault.{Fault}
use Rattle.crib_input.specs.declared.reason.Reason.{Reason}
use Rattle.crib_plan.specs.declared.plan.Next.TheVariants.{End, To}
use Rattle.crib_plan.specs.declared.plan.Node.{Node}
use Rattle.crib_plan.specs.declared.plan.Node.TheVariants.{Play}
use Rattle.crib_plan.specs.Nodes.{ArePlan}
use Rattle.crib_plan.specs.Spelling.{plan_text, plan_lines}
use Rattle.crib_game.specs.declared.fault.GameFault.{GameFault}
use Rattle.crib_game.specs.declared.fault.GameFault.TheVariants.{NotHeld, NotUnseen, Strays}
use Rattle.crib_game.specs.declared.section.game.Game.{Game}
use Rattle.crib_game.specs.Spelling.{IsGame, game_text, game_lines}
use Rattle.crib_input.specs.declared.refusal.Cause.TheVariants as causes
use Rattle.crib_input.specs.declared.refusal.Refusal as refusals
use Rattle.crib_input.specs.declared.reason.Reason.TheVariants as reasons
use Rattle.crib_input.specs.declared.reason.FaultCause.TheVariants as faults
use Rattle.crib_text.specs.Reading.{all_lines}
use Rattle.crib_input.specs.Input.{input_lines}
use Rattle.crib_input.proofs.InputReaders.{read_count, read_lines, read_played, read_played_under, read_problem, read_question, refused}
use Rattle.crib_input.specs.Refusals.{FitsFault, IsForPlan, ReadsAs, fault_words, input_cause_number, refusal_of}
use Rattle.crib_input.specs.Spelled.{SpellsGame, SpellsPlan, SpellsPlannedGame, SpellsProblem}

-- ---- the sections: a problem of ten lines, a plan of three, and a game of five
abbrev problem_section : List ℕ
problem_section = codes "problem 2\ndealer opponent\nscore 0 0\nstarter KD\nhold 2C 2D 2H 2S\nthrow 4C 6D\ngoal holes 13\nplayed 2\nown 2C\nopp AC\n"

abbrev plan_section : List ℕ
plan_section = codes "plan 1\nnodes 1\n0 play 2D end\n"

abbrev game_section : List ℕ
game_section = codes "game 1\nhold AC AD AH AS\nthrow 3C 3D\nacts 1\nown 2C\n"

abbrev the_plan : List Node
the_plan = Play 5 End ∷ []

abbrev the_game : Game
the_game = record { opp = aces; acts = record { items = plays Owner 4 ∷ [] } }

-- ---- what inputs are read as: each section, and refusal 8 for a line after the last one. No section may be missing, or come before its place
pub problems_read : map read_problem (problem_section ∷ (problem_section ++ codes "\n") ∷ []) ≡ Ok after_two ∷ refused 11 8 ∷ []
unfolding read_problem
problems_read = refl

-- a plan after a problem, the same with a line after it, no plan, and a game in its place
pub questions_read : map read_question ((problem_section ++ plan_section) ∷ (problem_section ++ plan_section ++ codes "\n") ∷ problem_section
    ∷ (problem_section ++ game_section) ∷ []) ≡ Ok (after_two, the_plan) ∷ refused 14 8 ∷ refused 11 3 ∷ refused 11 4 ∷ []
unfolding read_question
questions_read = refl

-- the section of the game begins at line 11. A game after a problem, the same with a line after it, and a plan in its place
pub played_read : map read_played ((problem_section ++ game_section) ∷ (problem_section ++ game_section ++ codes "\n")
    ∷ (problem_section ++ plan_section) ∷ []) ≡ Ok (after_two, the_game, 11) ∷ refused 16 8 ∷ refused 11 4 ∷ []
unfolding read_played
played_read = refl

-- the section of the game begins at line 14. A plan and a game, the same with a line after it, and a game before its plan
pub played_under_read : map read_played_under ((problem_section ++ plan_section ++ game_section)
    ∷ (problem_section ++ plan_section ++ game_section ++ codes "\n") ∷ (problem_section ++ game_section ++ plan_section) ∷ [])
    ≡ Ok (after_two, the_plan, the_game, 14) ∷ refused 19 8 ∷ refused 11 4 ∷ []
unfolding read_played_under
played_under_read = refl

-- the number of nodes is read before the nodes, and one is too great
pub counts_read : map (λ plan. read_count (problem_section ++ plan)) (codes "plan 1\nnodes 3\n" ∷ codes "plan 1\nnodes 65536\n" ∷ [])
    ≡ Ok 3 ∷ refused 12 32 ∷ []
unfolding read_count
counts_read = refl

-- ---- the text of an input: a bad byte at line 2, and a last line that is not ended
pub lines_read : map read_lines (codes "problem 1\n\t\n" ∷ codes "problem 1\ndealer" ∷ []) ≡ refused 2 1 ∷ refused 2 3 ∷ []
unfolding read_lines
lines_read = refl

-- a text of 8,388,608 bytes is read, and one of 8,388,609 bytes is refused, whatever these bytes are
pub the_longest : (bytes : List ℕ) → length bytes ≡ 8388608 → input_lines bytes ≡ all_lines bytes
unfolding input_lines
the_longest bytes e =
    subst (λ n. (if nat_le n 8388608 then all_lines bytes else refused 0 2) ≡ all_lines bytes) (sym e) refl

pub too_long : (bytes : List ℕ) → length bytes ≡ 8388609 → input_lines bytes ≡ refused 0 2
unfolding input_lines
too_long bytes e = subst (λ n. (if nat_le n 8388608 then all_lines bytes else refused 0 2) ≡ refused 0 2) (sym e) refl

-- ---- refusals as they are printed
pub numbers_of_causes : map input_cause_number (causes.Text texts.BadLine ∷ causes.Problem BadGoal ∷ causes.Plan plans.BadSet ∷ causes.Game (Strays 1) ∷ [])
    ≡ 4 ∷ 22 ∷ 31 ∷ 46 ∷ []
numbers_of_causes = refl

pub words_of_faults : map fault_words (faults.ReadFailed ∷ faults.WriteFailed ∷ faults.NoMemory ∷ faults.TooLarge ∷ [])
    ≡ codes "the input can't be read" ∷ codes "the answer can't be written" ∷ codes "out of memory"
    ∷ codes "the plan that was found has too many nodes" ∷ []
words_of_faults = refl

pub line_before_number : refusal_of (record { line = 9; cause = causes.Plan plans.BadNext }) ≡ record { line = 9; number = 30 }
line_before_number = refl

-- ---- a result agrees with what was read: the same value, or the same refusal
abbrev line_or : ℕ → Result ℕ Refusal → ℕ
line_or other (Ok value) = other
line_or other (Err refusal) = refusal.line

abbrev value_or : ℕ → Result ℕ Refusal → ℕ
value_or other (Ok value) = value
value_or other (Err refusal) = other

abbrev bad_line_3 : Reason
bad_line_3 = reasons.Refused (record { line = 3; cause = causes.Text texts.BadLine })

pub as_read : ReadsAs (λ (n : ℕ). n + 1) (Ok 5) (Ok 6) × ReadsAs (λ (n : ℕ). n) (Err bad_line_3) (refused 3 4)
as_read = (refl, refl)

pub another_value : ReadsAs (λ (n : ℕ). n + 1) (Ok 5) (Ok 5) → ⊥
another_value is = (let value : 5 ≡ 6 = ap (value_or 0) is in absurd (omega (arith, value)))

pub another_refusal : ReadsAs (λ (n : ℕ). n) (Err bad_line_3) (refused 9 8) → ⊥
another_refusal is = (let line : 9 ≡ 3 = ap (line_or 0) is in absurd (omega (arith, line)))

pub a_value_for_a_refusal : ReadsAs (λ (n : ℕ). n) (Err bad_line_3) (Ok 3) → ⊥
a_value_for_a_refusal is = (let line : 0 ≡ 3 = ap (line_or 0) is in absurd (omega (arith, line)))

-- without memory anything may have been read, but there is no other fault
pub anything_without_memory : ReadsAs (λ (n : ℕ). n) (Err (reasons.Fault faults.NoMemory)) (refused 3 4)
    × (ReadsAs (λ (n : ℕ). n) (Err (reasons.Fault faults.TooLarge)) (refused 3 4) → ⊥)
anything_without_memory = (refl, λ is. absurd cc)

-- ---- the fault of a game: it isn't that of an opening, and a fault of the game is no cause of another section
pub fits_the_fault : FitsFault (Some (NotHeld 3)) (reasons.Refused (record { line = 12; cause = causes.Game (NotHeld 3) }))
    × FitsFault None (reasons.Refused (record { line = 12; cause = causes.Problem problems.NotHeld }))
    × FitsFault (Some (NotHeld 3)) (reasons.Fault faults.NoMemory)
fits_the_fault = (refl, refl, tt)

abbrev card_of : Option GameFault → ℕ
card_of (Some (NotUnseen card)) = card
card_of fault = 0

pub fits_no_other : (FitsFault (Some (NotHeld 3)) (reasons.Refused (record { line = 12; cause = causes.Problem problems.NotHeld })) → ⊥)
    × (FitsFault None (reasons.Refused (record { line = 12; cause = causes.Game (NotHeld 3) })) → ⊥)
    × (FitsFault (Some (NotUnseen 1)) (reasons.Refused (record { line = 9; cause = causes.Game (NotUnseen 2) })) → ⊥)
fits_no_other = (λ is. absurd cc, λ is. absurd cc, λ is. (let same : 2 ≡ 1 = ap card_of is in absurd (omega (arith, same))))

-- ---- an input that was not read because of its plan
abbrev bad_set_9 : Fault PlanCause
bad_set_9 = record { line = 9; cause = plans.BadSet }

abbrev no_memory : Fault PlanCause
no_memory = record { line = 0; cause = plans.Text texts.NoMemory }

pub refused_for_a_set : IsForPlan bad_set_9 (reasons.Refused (record { line = 9; cause = causes.Plan plans.BadSet }))
refused_for_a_set = (refl, λ e. absurd (omega (arith, e)))

pub refused_at_another_line : IsForPlan bad_set_9 (reasons.Refused (record { line = 8; cause = causes.Plan plans.BadSet })) → ⊥
refused_at_another_line is = (let line : 8 ≡ 9 = ap (λ (refusal : refusals.Refusal). refusal.line) is.0 in absurd (omega (arith, line)))

pub refused_for_a_text : IsForPlan bad_set_9 (reasons.Refused (record { line = 9; cause = causes.Text texts.BadLine })) → ⊥
refused_for_a_text is =
    (let cause : causes.Text texts.BadLine ≡ causes.Plan plans.BadSet = ap (λ (refusal : refusals.Refusal). refusal.cause) is.0 in absurd cc)

pub memory_for_a_plan : IsForPlan no_memory (reasons.Fault faults.NoMemory)
    × (IsForPlan no_memory (reasons.Refused (record { line = 0; cause = causes.Text texts.NoMemory })) → ⊥)
memory_for_a_plan = ((refl, refl), λ is. absurd (is.1 refl))

pub no_memory_for_a_set : IsForPlan bad_set_9 (reasons.Fault faults.NoMemory) → ⊥
no_memory_for_a_set is = (let same : 31 ≡ 11 = is.1 in absurd (omega (arith, same)))

pub no_other_fault_for_a_plan : IsForPlan no_memory (reasons.Fault faults.TooLarge) → ⊥
no_other_fault_for_a_plan is = (let same : faults.TooLarge ≡ faults.NoMemory = is.0 in absurd cc)

-- ---- what an input spells: the texts one after the other, of a valid problem, a valid plan and a valid game
pub spelled_inputs : IsSetup after_two → ArePlan the_plan → IsGame the_game → SpellsProblem problem_section after_two
    × SpellsPlan (problem_section ++ plan_section) after_two the_plan × SpellsGame (problem_section ++ game_section) after_two the_game
    × SpellsPlannedGame (problem_section ++ plan_section ++ game_section) after_two the_plan the_game
unfolding problem_text problem_lines plan_text plan_lines game_text game_lines digits
spelled_inputs problem plan game = (
  record { problem_is = problem; text = refl },
  record { problem_is = problem; plan_is = plan; text = refl },
  record { problem_is = problem; game_is = game; text = refl },
  record { problem_is = problem; plan_is = plan; game_is = game; text = refl },
)

-- a problem with the owner at 121, a plan whose only node leads to itself, and a game with one card thrown are not valid
abbrev past_the_end : Setup
past_the_end = record after_two { scores = record { owner = 121; opponent = 0 } }

abbrev to_itself : List Node
to_itself = Play 5 (To 0) ∷ []

abbrev one_thrown : Game
one_thrown = record { opp = record { hold = 0 ∷ 1 ∷ 2 ∷ 3 ∷ []; throw = 8 ∷ [] }; acts = record { items = [] } }

pub problem_past_the_end : (input : List ℕ) (plan : List Node) (game : Game) → (SpellsProblem input past_the_end → ⊥)
    × (SpellsPlan input past_the_end plan → ⊥) × (SpellsGame input past_the_end game → ⊥) × (SpellsPlannedGame input past_the_end plan game → ⊥)
problem_past_the_end input plan game = (
  λ is. past is.problem_is.owner_score,
  λ is. past is.problem_is.owner_score,
  λ is. past is.problem_is.owner_score,
  λ is. past is.problem_is.owner_score,
)
  where
    past : 121 ≤ 120 → ⊥
    past score = absurd (omega (arith, score))

pub plan_to_itself : (input : List ℕ) (problem : Setup) (game : Game) → (SpellsPlan input problem to_itself → ⊥)
    × (SpellsPlannedGame input problem to_itself game → ⊥)
plan_to_itself input problem game = (
  λ is. (let later = is.plan_is.1.0.1.0 in absurd (omega (arith, later))),
  λ is. (let later = is.plan_is.1.0.1.0 in absurd (omega (arith, later))),
)

pub game_with_one_thrown : (input : List ℕ) (problem : Setup) (plan : List Node) → (SpellsGame input problem one_thrown → ⊥)
    × (SpellsPlannedGame input problem plan one_thrown → ⊥)
game_with_one_thrown input problem plan = (
  λ is. (let two = is.game_is.six.thrown in absurd (omega (arith, two))),
  λ is. (let two = is.game_is.six.thrown in absurd (omega (arith, two))),
)
