use Rattle.std.proofs.Common.{◌≡◌, ◌<◌, ◌/◌, ◌%◌, ◌++◌, ℕ, [], ◌∷◌, length, get_or, min}
use Rattle.crib_show.specs.Show.{crib_points}
use Rattle.crib_deals.specs.Throws.{AreFew}
use Rattle.crib_deals.proofs.throws.cribs_of.Given as goal

abbrev pub invariant-loop-index : goal.invariant-loop-index
invariant-loop-index l = record {
  long : length l.points ≡ 2704;
  each : (i : ℕ) → i < l.index → get_or l.points i 0 ≡ min (crib_points (l.fn.thrown ++ i / 52 ∷ i % 52 ∷ []) l.fn.starter) 29;
  few : AreFew l.points;
}
