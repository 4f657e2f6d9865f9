use Rattle.std.proofs.Common.{◌≡◌, ◌<◌, ℕ, length, get_or, take}
use Rattle.crib_deals.specs.Private.Sums.{AreSmall, AreSums, no_sums, of_suits}
use Rattle.crib_deals.proofs.sums.sums_of.Given as goal

abbrev pub invariant-loop-hold : goal.invariant-loop-hold
invariant-loop-hold l = record {
  long : length l.sums ≡ 7;
  sums : (suits : ℕ) → suits < 7 →
      AreSums l.fn.cribs.points (of_suits l.fn.starter suits) (take l.hold-index l.fn.holds) (get_or l.sums suits no_sums);
  small : (suits : ℕ) → suits < 7 → AreSmall (get_or l.sums suits no_sums);
}
