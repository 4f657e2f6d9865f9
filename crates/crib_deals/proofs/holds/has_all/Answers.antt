use Rattle.std.proofs.Common.{sym, ◌∙◌}
use Rattle.crib_deals.proofs.ListedHolds.{all_of_none}
use Rattle.crib_deals.proofs.holds.has_all.Goals as goal

pub returns-then-is_empty : goal.returns-then-is_empty
returns-then-is_empty c = c.if-is_empty.true ∙ sym (all_of_none c.args.cards c.args.hold.now (sym c.is_empty.ensures ∙ c.if-is_empty.true))
