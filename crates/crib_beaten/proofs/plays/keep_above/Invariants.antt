use Rattle.std.proofs.Common.{◌≡◌, ◌≤◌, filter, length, nat_lt, take}
use Rattle.crib_cards.specs.Sets.{count_at}
use Rattle.crib_beaten.specs.Beaten.{counts_of}
use Rattle.crib_beaten.proofs.plays.keep_above.Given as goal

abbrev pub invariant-loop-index : goal.invariant-loop-index
invariant-loop-index l = record {
  few : l.count ≤ l.index-index;
  long : length l.left ≡ length l.fn.left;
  kept : take l.count l.left
      ≡ filter (λ index. nat_lt l.fn.seen (count_at (counts_of l.fn.choices index) l.fn.rank)) (take l.index-index l.fn.indices);
}
