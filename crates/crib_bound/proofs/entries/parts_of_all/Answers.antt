use Rattle.std.proofs.Common.{arith}
use Rattle.crib_bound.proofs.OpenDeals.{zeros}
use Rattle.crib_bound.proofs.entries.parts_of_all.Goals as goal

pub loop-index-init : goal.loop-index-init
loop-index-init c = λ index. let none = zeros 29120 index in omega (arith, none)
