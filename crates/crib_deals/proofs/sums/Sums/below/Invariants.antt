use Rattle.std.proofs.Common.{◌≡◌, ◌≤◌, ◌<◌, ℕ, Bool, List, length, slice_index, take}
use Rattle.crib_deals.specs.Private.Sums.{AreHeld, AreSums, left_below, weigh_from}
use Rattle.crib_deals.proofs.sums.Sums.below.Given as goal

abbrev pub invariant-loop-limit : goal.invariant-loop-limit
invariant-loop-limit l = record {
  long : length l.below ≡ 31;
  held : l.limit ≤ 30 → l.held ≡ weigh_from 0 (λ i. 1) (take l.limit l.fn.self.pairs);
  each : (kind : List ℕ → Bool) (holds : List (List ℕ)) → AreSums l.fn.cribs.points kind holds l.fn.self →
      AreHeld l.fn.cribs.unseen l.fn.ranks holds → (i : ℕ) → i < l.limit → slice_index l.below i ≡ left_below l.fn.cribs kind i holds;
}
