use Rattle.std.proofs.Common.{◌≡◌, ◌<◌, ℕ, None, get_or, length}
use Rattle.crib_deals.specs.Private.Holds.{pair_at}
use Rattle.crib_deals.proofs.holds.pairs_at.Given as goal

abbrev pub invariant-loop-suits : goal.invariant-loop-suits
invariant-loop-suits l = record {
  long : length l.pairs ≡ 16;
  each : (i : ℕ) → i < l.suits → get_or l.pairs i None ≡ pair_at l.fn.unseen l.fn.ranks l.fn.at i;
}
