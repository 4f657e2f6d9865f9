use Rattle.std.proofs.Common.{◌≡◌, ℕ, ◌+◌, ◌<◌, ◌≤◌, ◌/◌, ◌%◌, length, slice_index}
use Rattle.crib_show.specs.Worst.{plain_with}
use Rattle.crib_show.proofs.worst.cribs.plain_cribs.Given as goal

abbrev pub invariant-loop-index : goal.invariant-loop-index
invariant-loop-index l = record {
  len : length l.points ≡ 169;
  filled : (k : ℕ) → k < l.index → slice_index l.points k ≡ plain_with l.starter l.throw (k / 13 + 1) (k % 13 + 1);
  few : (k : ℕ) → k < l.index → slice_index l.points k ≤ 96;
}
