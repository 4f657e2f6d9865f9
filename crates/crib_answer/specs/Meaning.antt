-- What the replies of `check` and `solve` guarantee about the input.
use Rattle.std.specs.Prelude.{◌≡◌, ◌⊎◌, ℕ, List, [], ◌∷◌, ◌++◌, codes}
use Rattle.crib_text.specs.Refusals.{no_memory}
use Rattle.crib_text.specs.Spelling.{line_text}
use Rattle.crib_problem.specs.Setup.{Setup}
use Rattle.crib_plan.specs.declared.plan.Node.{Node}
use Rattle.crib_plan.specs.Nodes.{ArePlan}
use Rattle.crib_plan.specs.Spelling.{plan_text}
use Rattle.crib_game.specs.declared.section.game.Game.{Game}
use Rattle.crib_game.specs.declared.following.ending.Ending.{Ending}
use Rattle.crib_game.specs.Spelling.{game_text}
use Rattle.crib_sure.specs.Sure.{IsSure, GoesOn, Ends}
use Rattle.crib_check.specs.Failing.{IsFailing}
use Rattle.crib_search.specs.Winnable.{IsWinnable}
use Rattle.crib_input.specs.Spelled.{SpellsProblem, SpellsPlan}
use Rattle.crib_answer.specs.declared.job.Job.{Job}
use Rattle.crib_answer.specs.declared.job.Job.TheVariants.{Replay, Follow, Check, Solve, Board}
use Rattle.crib_run.specs.declared.status.Status.{Status}
use Rattle.crib_run.specs.declared.status.Status.TheVariants.{Yes, No, Refused, Fault}
use Rattle.crib_run.specs.Reply.{Reply}
use Rattle.crib_game.specs.Words.{ending_word}
use Rattle.crib_run.specs.Reply.{fault_line}
use Rattle.crib_answer.specs.Answer.{too_large}

-- an input spells a problem and a plan. The plan is sure for the problem, and the play goes on until the deal is done
pub record HasSurePlan (input : List ℕ) : Type 0 where
  pub problem : Setup
  pub plan : List Node
  pub spelled : SpellsPlan input problem plan
  pub sure : IsSure problem plan
  pub goes_on : GoesOn problem plan
  pub ends : Ends problem

-- an input spells a problem and a plan, and `text` is the text of a failing game of the plan with the ending `result`
pub record HasFailingPlan (input : List ℕ) (result : Ending) (text : List ℕ) : Type 0 where
  pub problem : Setup
  pub plan : List Node
  pub game : Game
  pub spelled : SpellsPlan input problem plan
  pub game_is : text ≡ game_text game
  pub failing : IsFailing problem plan game result

-- an input spells a problem, and `text` is the text of a plan that is sure for this problem. `check` accepts the plan:
-- it has at most 65,535 nodes, and each leads only to later nodes. The play goes on until the deal is done
pub record IsSolvedBy (input text : List ℕ) : Type 0 where
  pub problem : Setup
  pub plan : List Node
  pub spelled : SpellsProblem input problem
  pub is_plan : ArePlan plan
  pub plan_is : text ≡ plan_text plan
  pub sure : IsSure problem plan
  pub goes_on : GoesOn problem plan
  pub ends : Ends problem

-- an input spells a problem for which no plan is sure
pub record HasNoPlan (input : List ℕ) : Type 0 where
  pub problem : Setup
  pub spelled : SpellsProblem input problem
  pub none : ¬ IsWinnable problem

-- an input spells a problem for which some plan is sure
pub record HasSomePlan (input : List ℕ) : Type 0 where
  pub problem : Setup
  pub spelled : SpellsProblem input problem
  pub some : IsWinnable problem

-- ---- the lines of the replies

-- the line that says that a plan is sure
abbrev pub holds_line : List ℕ
holds_line = line_text (codes "holds" ∷ [])

-- the line that says that a plan fails, with the ending of a failing game
abbrev pub fails_line : Ending → List ℕ
fails_line result = line_text (codes "fails" ∷ ending_word result ∷ [])

-- the line that says that no plan is sure
abbrev pub none_line : List ℕ
none_line = line_text (codes "none" ∷ [])

-- ---- what the text and the status guarantee

-- what the reply of `check` guarantees, by its status. Yes: the text is `holds`, and the plan is sure. No: the text is
-- `fails`, the ending and a failing game of the plan. Refused: the input spells no problem and plan. Fault: the text
-- says that an allocation failed
abbrev pub CheckMeans : List ℕ → List ℕ → Status → Type 0
CheckMeans input text Yes = HasSurePlan input × (text ≡ holds_line)
CheckMeans input text No =
    (result : Ending) × (game : List ℕ) × HasFailingPlan input result game × (text ≡ fails_line result ++ game)
CheckMeans input text Refused = (problem : Setup) (plan : List Node) → ¬ SpellsPlan input problem plan
CheckMeans input text Fault = text ≡ fault_line no_memory

-- what the reply of `solve` guarantees, by its status. Yes: the text spells a plan that is sure. No: the text is
-- `none`, and no plan is sure. Refused: the input spells no problem. Fault: the text says that an allocation failed; or
-- it says that the plan that was found has too many nodes, and some plan is sure
abbrev pub SolveMeans : List ℕ → List ℕ → Status → Type 0
SolveMeans input text Yes = IsSolvedBy input text
SolveMeans input text No = HasNoPlan input × (text ≡ none_line)
SolveMeans input text Refused = (problem : Setup) → ¬ SpellsProblem input problem
SolveMeans input text Fault =
    (text ≡ fault_line no_memory) ⊎ (HasSomePlan input × (text ≡ fault_line too_large))

-- what the text and the status of a reply guarantee about the input. For a job other than `check` and `solve` this says
-- nothing
abbrev pub StatusMeans : Job → List ℕ → Reply → Type 0
StatusMeans Check input reply = CheckMeans input reply.output reply.status
StatusMeans Solve input reply = SolveMeans input reply.output reply.status
StatusMeans Replay input reply = Unit {0}
StatusMeans Follow input reply = Unit {0}
StatusMeans Board input reply = Unit {0}
