use Rattle.std.proofs.Common.{◌≡◌, ◌≤◌, ◌<◌, ◌+◌, ◌*◌, ℕ, length, slice_index}
use Rattle.crib_deals.specs.Throws.{is_below, partners}
use Rattle.crib_deals.proofs.sums.add_times.Given as goal

abbrev pub invariant-loop-limit : goal.invariant-loop-limit
invariant-loop-limit l = record {
  long : length l.with ≡ 31;
  each : (i : ℕ) → i < l.limit →
      slice_index l.with i ≡ slice_index l.fn.with i + l.fn.count * partners (is_below l.fn.cribs.points i) l.fn.card l.fn.cribs.unseen;
  few : (i : ℕ) → i < l.limit → slice_index l.with i ≤ slice_index l.fn.with i + 300000;
  rest : (i : ℕ) → l.limit ≤ i → slice_index l.with i ≡ slice_index l.fn.with i;
}
