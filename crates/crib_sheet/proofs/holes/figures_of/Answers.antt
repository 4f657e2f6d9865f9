use Rattle.std.proofs.Common.{sym, ◌∙◌}
use Rattle.std.proofs.lemmas.Option.{none-some}
use Rattle.crib_sheet.specs.Holes.{at_zero}
use Rattle.crib_sheet.proofs.HolesLines.{zero_counted}
use Rattle.crib_sheet.proofs.holes.figures_of.Goals as goal

pub returns-in-None : goal.returns-in-None
returns-in-None g c =
    (c.in_ok-holes.ensures, λ setup. absurd (none-some (at_zero c.args.problem.now) (sym c.in-None.is ∙ c.with_scores.ensures.valid setup)))

pub returns-in_ok-others-in-Some : goal.returns-in_ok-others-in-Some
returns-in_ok-others-in-Some g c =
    (c.in_ok-holes.ensures, zero_counted c.args.problem.now _ _ c.in-Some.ensures.only.0 c.in-Some.ensures.only.1 c.in_ok-others-in-Some.ensures)
