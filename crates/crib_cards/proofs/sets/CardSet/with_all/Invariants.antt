use Rattle.std.proofs.Common.{◌≡◌, ◌<◌, ◌^◌, take}
use Rattle.crib_cards.specs.SetBits.{cards_of_bits}
use Rattle.crib_cards.specs.Sets.{set_with_all}
use Rattle.crib_cards.proofs.sets.CardSet.with_all.Given as goal

abbrev pub invariant-loop-added : goal.invariant-loop-added
invariant-loop-added l = record {
  small : l.bits < 2 ^ 52;
  so_far : cards_of_bits l.bits ≡ set_with_all l.fn.self (take l.added-index l.cards);
}
