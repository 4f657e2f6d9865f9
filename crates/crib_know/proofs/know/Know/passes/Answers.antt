use Rattle.std.proofs.Common.{sym, ◌∙◌}
use Rattle.crib_know.proofs.PassingCounts.{fails_here, holds_on, holds_past}
use Rattle.crib_know.proofs.know.Know.passes.Goals as goal

pub loop-number-preserved : goal.loop-number-preserved
loop-number-preserved c =
    c.loop-number.invariant ∙ holds_on _ _ c.loop-number-test.true (rw (← c.in-Some.ensures.value) (sym c.if-not-passes_rank.ensures))

pub returns-then-not-passes_rank : goal.returns-then-not-passes_rank
returns-then-not-passes_rank c =
    sym (c.loop-number.invariant ∙ fails_here _ _ c.loop-number-test.true (rw (← c.in-Some.ensures.value) (sym c.if-not-passes_rank.ensures)))

pub returns : goal.returns
returns c = sym (c.loop-number.invariant ∙ holds_past _ _ c.loop-number-test.false)
