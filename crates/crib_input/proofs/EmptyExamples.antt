-- Worked examples of an empty input: it spells nothing.
use Rattle.std.specs.Prelude.{◌≡◌, List, [], ◌++◌, ℕ}
use Rattle.std.proofs.Common.{sym, ◌∙◌, append_assoc}
use Rattle.std.proofs.lemmas.List.{append-nil}
use Rattle.crib_problem.specs.Setup.{Setup}
use Rattle.crib_problem.specs.Spelling.{problem_lines, problem_text}
use Rattle.crib_plan.specs.declared.plan.Node.{Node}
use Rattle.crib_game.specs.declared.section.game.Game.{Game}
use Rattle.crib_input.specs.Spelled.{SpellsGame, SpellsPlan, SpellsPlannedGame, SpellsProblem}

begins : (problem : Setup) (rest : List ℕ) → [] ≡ problem_text problem ++ rest → ⊥
unfolding problem_text problem_lines
begins problem rest text = cc

pub no_problem_in_nothing : (problem : Setup) → SpellsProblem [] problem → ⊥
no_problem_in_nothing problem is = begins problem [] (is.text ∙ sym (append-nil (problem_text problem)))

pub no_plan_in_nothing : (problem : Setup) (plan : List Node) → SpellsPlan [] problem plan → ⊥
no_plan_in_nothing problem plan is = begins problem _ is.text

pub no_game_in_nothing : (problem : Setup) (game : Game) → SpellsGame [] problem game → ⊥
no_game_in_nothing problem game is = begins problem _ is.text

pub no_planned_game_in_nothing : (problem : Setup) (plan : List Node) (game : Game) → SpellsPlannedGame [] problem plan game → ⊥
no_planned_game_in_nothing problem plan game is = begins problem _ (rw append_assoc at is.text)
