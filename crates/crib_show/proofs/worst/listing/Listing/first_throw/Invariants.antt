use Rattle.std.proofs.Common.{◌≡◌, [], ◌∷◌, length}
use Rattle.crib_show.specs.Private.Listing.{any_card, first_pick, first_throw, try_throw}
use Rattle.crib_show.proofs.worst.listing.Listing.first_throw.Given as goal

abbrev pub invariant-loop-first : goal.invariant-loop-first
invariant-loop-first l =
    first_pick (try_throw l.self.worst.now l.self.sought.demand l.hold) any_card [] 2 l.firsts
    ≡ first_throw l.self.worst.now l.self.sought.demand l.hold l.fn.cards

abbrev pub decreases-loop-first : goal.decreases-loop-first
decreases-loop-first l = length l.firsts

abbrev pub invariant-loop-second : goal.invariant-loop-second
invariant-loop-second l =
    first_pick (try_throw l.self.worst.now l.self.sought.demand l.hold) any_card (l.first ∷ []) 1 l.seconds ≡ first_pick
    (try_throw l.self.worst.now l.self.sought.demand l.hold) any_card (l.first ∷ []) 1 l.firsts

abbrev pub decreases-loop-second : goal.decreases-loop-second
decreases-loop-second l = length l.seconds
