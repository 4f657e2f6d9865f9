use Rattle.std.proofs.Common.{◌≡◌, ◌≤◌, filter, length, take}
use Rattle.crib_know.specs.Hidden.{passes_counts}
use Rattle.crib_beaten.specs.Beaten.{counts_of}
use Rattle.crib_beaten.proofs.plays.keep_passing.Given as goal

abbrev pub invariant-loop-index : goal.invariant-loop-index
invariant-loop-index l = record {
  few : l.count ≤ l.index-index;
  long : length l.left ≡ length l.fn.left;
  kept : take l.count l.left
      ≡ filter (λ index. passes_counts l.fn.after.least l.fn.after.ranks_seen (counts_of l.fn.choices index)) (take l.index-index l.fn.indices);
}
