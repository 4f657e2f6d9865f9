use Rattle.std.proofs.Common.{◌≡◌, ◌≤◌, ◌+◌, ℕ, slice_index, take}
use Rattle.crib_deals.specs.Throws.{is_below, partners}
use Rattle.crib_deals.proofs.throws.add_partners.Given as goal

abbrev pub invariant-loop-other : goal.invariant-loop-other
invariant-loop-other l = record {
  value : (limit : ℕ) → limit ≤ 30 →
      slice_index l.below limit ≡ slice_index l.fn.below limit + partners (is_below l.fn.points limit) l.fn.card (take l.other-index l.fn.cards);
  few : (limit : ℕ) → limit ≤ 30 → slice_index l.below limit ≤ slice_index l.fn.below limit + l.other-index;
}
