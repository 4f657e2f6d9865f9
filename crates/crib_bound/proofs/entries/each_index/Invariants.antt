use Rattle.std.proofs.Common.{◌≡◌, ◌<◌, length}
use Rattle.std.specs.List.{All}
use Rattle.crib_bound.proofs.entries.each_index.Given as goal

abbrev pub invariant-loop-index : goal.invariant-loop-index
invariant-loop-index l = record { long : length l.indices ≡ 29120; few : All (λ index. index < 29120) l.indices }
