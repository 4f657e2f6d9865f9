use Rattle.std.proofs.Common.{◌≡◌, ◌≤◌, ◌<◌, ℕ, [], length, get_or, slice_index}
use Rattle.crib_deals.specs.Private.Sums.{left_below, of_suits}
use Rattle.crib_deals.proofs.table.Table.of.Given as goal

abbrev pub invariant-loop-suits : goal.invariant-loop-suits
invariant-loop-suits l = record {
  long : length l.below ≡ 7;
  rows : (suits limit : ℕ) → suits < l.suits → limit ≤ 30 → slice_index (get_or l.below suits []) limit
      ≡ left_below l.fn.cribs (of_suits l.fn.problem.starter suits) limit l.fn.holds;
}
