use Rattle.std.proofs.Common.{◌≡◌, ◌≤◌, ◌*◌, ℕ, slice_index, take}
use Rattle.crib_deals.specs.Private.Sums.{partners_at, weigh_from}
use Rattle.crib_deals.proofs.sums.Sums.throws_with.Given as goal

abbrev pub invariant-loop-index : goal.invariant-loop-index
invariant-loop-index l = record {
  each : (limit : ℕ) → limit ≤ 30 →
      slice_index l.with limit ≡ weigh_from 0 (partners_at l.fn.cribs l.fn.ranks limit) (take l.index l.fn.self.cards);
  few : (limit : ℕ) → limit ≤ 30 → slice_index l.with limit ≤ 300000 * l.index;
}
