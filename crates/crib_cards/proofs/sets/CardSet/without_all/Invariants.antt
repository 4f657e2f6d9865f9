use Rattle.std.proofs.Common.{◌≡◌, ◌<◌, ◌^◌, take}
use Rattle.crib_cards.specs.SetBits.{cards_of_bits}
use Rattle.crib_cards.specs.Sets.{set_without_all}
use Rattle.crib_cards.proofs.sets.CardSet.without_all.Given as goal

abbrev pub invariant-loop-removed : goal.invariant-loop-removed
invariant-loop-removed l = record {
  small : l.bits < 2 ^ 52;
  so_far : cards_of_bits l.bits ≡ set_without_all l.fn.self (take l.removed-index l.cards);
}
