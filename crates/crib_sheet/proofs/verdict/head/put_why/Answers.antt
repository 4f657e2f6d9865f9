use Rattle.std.proofs.Common.{◌≡◌, List, [], refl, rules, sym}
use Rattle.crib_problem.specs.Setup.{Setup}
use Rattle.crib_plan.specs.declared.plan.Node.{Node}
use Rattle.crib_game.specs.declared.following.ending.Ending.{Ending}
use Rattle.crib_game.specs.declared.following.ending.Ending.TheVariants.{Stuck}
use Rattle.crib_game.specs.declared.section.game.Game.{Game}
use Rattle.crib_run.proofs.Printing.{as_text, more, nothing}
use Rattle.crib_sheet.specs.PlanHead.{why_text}
use Rattle.crib_sheet.proofs.verdict.head.put_why.Goals as goal

-- a game with another ending has no line
no_line : (problem : Setup) (plan : List Node) (ending : Ending) (game : Game) → (ending ≡ Stuck → ⊥) → why_text problem plan ending game ≡ []
no_line problem plan Stuck game other = absurd (other refl)
no_line problem plan _ game other = refl

pub returns-in-Stuck : goal.returns-in-Stuck
returns-in-Stuck g c = rw c.in-Stuck.is (as_text (more c.put.ensures c.put_stuck.ensures) (search rules))

pub returns-in_default : goal.returns-in_default
returns-in_default g c =
    as_text (nothing _) (sym (no_line c.args.problem.now c.args.plan.now c.args.ending c.args.game.now c.in_default.not-Stuck))
