-- What an input spells.
use Rattle.std.specs.Prelude.{◌≡◌, ℕ, List, ◌++◌}
use Rattle.crib_problem.specs.Setup.{Setup, IsSetup}
use Rattle.crib_problem.specs.Spelling.{problem_text}
use Rattle.crib_plan.specs.declared.plan.Node.{Node}
use Rattle.crib_plan.specs.Nodes.{ArePlan}
use Rattle.crib_plan.specs.Spelling.{plan_text}
use Rattle.crib_game.specs.declared.section.game.Game.{Game}
use Rattle.crib_game.specs.Spelling.{IsGame, game_text}

-- an input spells a problem: it is the text of the problem and nothing else
pub record SpellsProblem (input : List ℕ) (problem : Setup) : Type 0 where
  pub problem_is : IsSetup problem
  pub text : input ≡ problem_text problem

-- an input spells a problem and a plan: it is the text of the problem, then that of the plan, and nothing else
pub record SpellsPlan (input : List ℕ) (problem : Setup) (plan : List Node) : Type 0 where
  pub problem_is : IsSetup problem
  pub plan_is : ArePlan plan
  pub text : input ≡ problem_text problem ++ plan_text plan

-- an input spells a problem and a game: it is the text of the problem, then that of the game, and nothing else
pub record SpellsGame (input : List ℕ) (problem : Setup) (game : Game) : Type 0 where
  pub problem_is : IsSetup problem
  pub game_is : IsGame game
  pub text : input ≡ problem_text problem ++ game_text game

-- an input spells a problem, a plan and a game: it is their texts, one after the other, and nothing else
pub record SpellsPlannedGame (input : List ℕ) (problem : Setup) (plan : List Node) (game : Game) : Type 0 where
  pub problem_is : IsSetup problem
  pub plan_is : ArePlan plan
  pub game_is : IsGame game
  pub text : input ≡ problem_text problem ++ plan_text plan ++ game_text game
