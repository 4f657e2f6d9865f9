use Rattle.std.proofs.Common.{◌≡◌}
use Rattle.crib_know.specs.Hidden.{passes_counts, passes_rank}
use Rattle.crib_know.proofs.PassingCounts.{holds_from}
use Rattle.crib_know.proofs.know.Know.passes.Given as goal

abbrev pub invariant-loop-number : goal.invariant-loop-number
invariant-loop-number l =
    passes_counts l.self.least l.self.ranks_seen l.counts ≡ holds_from (passes_rank l.self.least l.self.ranks_seen l.counts) l.number
