use Rattle.std.proofs.Common.{◌≡◌, ◌≤◌, ◌<◌, ◌+◌, ℕ, cond, length, ltb, slice_index}
use Rattle.crib_deals.proofs.throws.add_above.Given as goal

abbrev pub invariant-loop-limit : goal.invariant-loop-limit
invariant-loop-limit l = record {
  long : length l.below ≡ 31;
  each : (i : ℕ) → i < l.limit → slice_index l.below i ≡ slice_index l.fn.below i + cond (ltb l.fn.points i) 1 0;
  rest : (i : ℕ) → l.limit ≤ i → slice_index l.below i ≡ slice_index l.fn.below i;
}
