use Rattle.std.proofs.Common.{sym, ◌∙◌}
use Rattle.crib_show.proofs.PairTrials.{next_pair, next_row}
use Rattle.crib_show.proofs.worst.totals.Throws.any_throw_scores.Goals as goal

pub loop-second-preserved : goal.loop-second-preserved
loop-second-preserved c =
    next_pair c.loop-first.first c.loop-second.second c.rank_numbered.result c.rank_numbered-in-loop-second.result c.loop-second.invariant
    (λ p q none. none) c.rank_numbered.ensures.value c.rank_numbered-in-loop-second.ensures.value (sym c.ranks_score.ensures ∙ c.if-ranks_score.false)

pub loop-first-preserved : goal.loop-first-preserved
loop-first-preserved c = next_row c.loop-first.first c.loop-second.second c.loop-second.invariant c.loop-second-test.false
