use Rattle.std.proofs.Common.{◌≡◌, ◌+◌, ◌≤◌, ℕ, false, get_or, length}
use Rattle.crib_cards.specs.Sets.{has}
use Rattle.crib_bound.specs.Private.Walks.{held_of}
use Rattle.crib_bound.proofs.entries.hold_back.Given as goal

abbrev pub invariant-loop-at : goal.invariant-loop-at
invariant-loop-at g l = record {
  held : (index : ℕ) → get_or l.amounts index 0 + held_of l.indices l.held l.at index ≤ get_or l.fn.amounts index 0;
  elsewhere : (index : ℕ) → has l.indices index ≡ false → get_or l.amounts index 0 ≡ get_or l.fn.amounts index 0;
  room : length l.held ≡ length l.fn.held;
}
