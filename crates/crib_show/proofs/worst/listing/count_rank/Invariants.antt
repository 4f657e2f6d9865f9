use Rattle.std.proofs.Common.{◌≡◌, take}
use Rattle.crib_cards.specs.Sets.{count_rank}
use Rattle.crib_show.proofs.worst.listing.count_rank.Given as goal

abbrev pub invariant-loop-card : goal.invariant-loop-card
invariant-loop-card l = l.count ≡ count_rank l.rank (take l.card-index l.cards)
