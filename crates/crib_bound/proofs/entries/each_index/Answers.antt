use Rattle.std.proofs.Common.{rules, ◌<◌, arith}
use Rattle.std.proofs.lemmas.List.Elements.{All-replicate}
use Rattle.crib_bound.proofs.entries.each_index.Goals as goal

pub loop-index-init : goal.loop-index-init
loop-index-init c = record { long = search rules; few = All-replicate (λ index. index < 29120) 29120 0 (omega arith) }
