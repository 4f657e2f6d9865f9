use Rattle.std.proofs.Common.{sym, ◌∙◌}
use Rattle.crib_deals.proofs.ListedHolds.{none_passes}
use Rattle.crib_deals.proofs.deals.Deals.holds.Goals as goal

pub returns-then-not-passes-clause-listed : goal.returns-then-not-passes-clause-listed
returns-then-not-passes-clause-listed c =
    rw (c.new.ensures, ← c.self.view_is)
    (none_passes c.self.invariant c.args.ranks.now (rw c.count_ranks.ensures.value at (sym c.passes.ensures ∙ c.if-not-passes.true)))

pub list_holds-requires-clause-passing : goal.list_holds-requires-clause-passing
list_holds-requires-clause-passing c = rw c.count_ranks.ensures.value at (sym c.passes.ensures ∙ c.if-not-passes.false)
