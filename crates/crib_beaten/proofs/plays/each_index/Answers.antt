use Rattle.std.proofs.Common.{rules, ◌<◌, eqb, arith}
use Rattle.std.proofs.lemmas.Bool.Decides.{nat_tests}
use Rattle.std.proofs.lemmas.List.Folds.{list_any_at}
use Rattle.std.proofs.lemmas.List.Elements.{All-replicate}
use Rattle.crib_beaten.proofs.plays.each_index.Goals as goal

pub loop-index-init : goal.loop-index-init
loop-index-init c =
    record { long = search rules; each = λ i less. absurd (omega (arith, less)); few = All-replicate (λ index. index < 1820) 1820 0 (omega arith) }

pub returns-clause-all : goal.returns-clause-all
returns-clause-all c = λ index small.
    list_any_at (λ other. eqb other index) c.loop-index.indices index 0 (omega (arith, small, c.loop-index.invariant.long))
    (grind (arith, nat_tests, c.loop-index.invariant.each index, small, c.loop-index-test.false))
