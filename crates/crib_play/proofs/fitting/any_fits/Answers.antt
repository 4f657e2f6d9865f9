use Rattle.std.proofs.Common.{sym, ◌∙◌}
use Rattle.crib_play.proofs.FittingLemmas.{lowest_fits, none_fits}
use Rattle.crib_play.proofs.fitting.any_fits.Goals as goal

pub returns-in-Some : goal.returns-in-Some
returns-in-Some c = c.fits.ensures ∙ lowest_fits c.args.cards c.args.count c.in-Some.lowest c.lowest.ensures.set (sym c.in-Some.is ∙ c.lowest.ensures.first)

pub returns-in-None : goal.returns-in-None
returns-in-None c = none_fits c.args.cards c.args.count (sym c.in-None.is ∙ c.lowest.ensures.first)
