use Rattle.std.proofs.Common.{sym, ap, ◌∙◌}
use Rattle.crib_show.specs.Private.Listing.{may_miss}
use Rattle.crib_show.proofs.DeadEnds.{low_hand}
use Rattle.crib_show.proofs.worst.listing.Listing.first_of_hold.Goals as goal

pub returns-then-not-may_miss : goal.returns-then-not-may_miss
returns-then-not-may_miss c =
    sym (low_hand c.args.self.now.worst.now c.args.self.now.sought c.args.hold
    (sym (ap (may_miss c.args.self.now.sought) (c.hand_points-hand.ensures.value)) ∙ sym c.may_miss.ensures ∙ c.if-not-may_miss.true))
