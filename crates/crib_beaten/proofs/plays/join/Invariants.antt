use Rattle.std.proofs.Common.{◌≡◌, ℕ, List, length, take}
use Rattle.crib_beaten.specs.Private.Demands.{AreJoined}
use Rattle.crib_beaten.proofs.plays.join.Given as goal

abbrev pub invariant-loop-index : goal.invariant-loop-index
invariant-loop-index l = record {
  long : length l.demands ≡ 1820;
  joined : (choices : List (List ℕ)) → AreJoined (λ counts more. more ≡ l.fn.demand) choices (take l.index-index l.fn.indices) l.fn.demands l.demands;
}
