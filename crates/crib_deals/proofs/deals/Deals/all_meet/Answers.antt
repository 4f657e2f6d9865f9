use Rattle.std.proofs.Common.{◌≡◌, ◌∷◌, ap, ◌∙◌, arith}
use Rattle.crib_cards.specs.Cards.{rank_of}
use Rattle.crib_problem.specs.Setup.{Setup}
use Rattle.crib_show.specs.Show.{plain_of_ranks}
use Rattle.crib_deals.proofs.TableRows.{none_missing, none_missing_of_all}
use Rattle.crib_deals.proofs.deals.Deals.all_meet.Goals as goal

pub returns-then-is_met_by_all : goal.returns-then-is_met_by_all
returns-then-is_met_by_all c = λ met dealt has.
    none_missing_of_all (rw c.self.view_is at c.self.invariant.knows.setup) c.args.demand (c.is_met_by_all.ensures.0 met) dealt has

pub returns-then-is_met_below : goal.returns-then-is_met_below
returns-then-is_met_below c = λ met dealt has.
    let starter : c.starter.result ≡ c.args.self.now.starter = c.starter.ensures ∙ ap (λ (p : Setup). p.starter) c.self.view_is in
    let plain = ap (λ s. plain_of_ranks (rank_of s ∷ c.args.ranks.now)) starter in
    none_missing (rw c.self.view_is at c.self.invariant.knows.setup) c.args.demand _ (omega (arith, c.plain_points.ensures.value, plain))
    (c.is_met_below-then-is_met_below.ensures met) dealt has
