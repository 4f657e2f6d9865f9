use Rattle.std.proofs.Common.{◌≡◌, ◌+◌, ◌≤◌, ℕ, false, get_or}
use Rattle.crib_cards.specs.Sets.{has}
use Rattle.crib_bound.specs.Private.Walks.{held_of}
use Rattle.crib_bound.proofs.entries.put_back.Given as goal

abbrev pub invariant-loop-at : goal.invariant-loop-at
invariant-loop-at l = record {
  most : (index : ℕ) → get_or l.amounts index 0 ≤ get_or l.fn.amounts index 0 + held_of l.indices l.held l.at index;
  elsewhere : (index : ℕ) → has l.indices index ≡ false → get_or l.amounts index 0 ≡ get_or l.fn.amounts index 0;
}
