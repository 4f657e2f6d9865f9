use Rattle.std.proofs.Common.{◌≡◌, ◌<◌, ℕ, get_or, length}
use Rattle.std.specs.List.{All}
use Rattle.crib_beaten.proofs.plays.each_index.Given as goal

abbrev pub invariant-loop-index : goal.invariant-loop-index
invariant-loop-index l = record {
  long : length l.indices ≡ 1820;
  each : (i : ℕ) → i < l.index → get_or l.indices i 0 ≡ i;
  few : All (λ index. index < 1820) l.indices;
}
