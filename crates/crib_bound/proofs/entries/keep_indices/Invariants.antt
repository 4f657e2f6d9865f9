use Rattle.std.proofs.Common.{◌≡◌, ◌≤◌, ◌<◌, ◌&&◌, ◌/◌, ℕ, true, length, take}
use Rattle.std.specs.List.{All}
use Rattle.crib_cards.specs.Sets.{has}
use Rattle.crib_beaten.specs.Beaten.{counts_of, may_show}
use Rattle.crib_bound.proofs.entries.keep_indices.Given as goal

abbrev pub invariant-loop-index : goal.invariant-loop-index
invariant-loop-index l = record {
  few : l.count ≤ l.index-index;
  long : length l.left ≡ length l.fn.left;
  kept : (index : ℕ) → has (take l.count l.left) index ≡ true →
      (has l.indices index && may_show l.before l.after l.letter (counts_of l.choices (index / 16))) ≡ true;
  small : All (λ index. index < 29120) (take l.count l.left);
}
