use Rattle.std.proofs.Common.{arith}
use Rattle.crib_tables.proofs.ScoreTables.{zip_more}
use Rattle.crib_tables.specs.Scores.{IsMarkAt}
use Rattle.crib_tables.proofs.scores.row_of.Goals as goal

pub loop-opponent-preserved : goal.loop-opponent-preserved
loop-opponent-preserved g c = (
  rw c.push.ensures.items
      (zip_more (λ opponent mark. IsMarkAt c.args.problem.now (record { owner = c.args.owner; opponent = opponent }) mark) c.args.columns.now
      c.loop-opponent.marks.items c.loop-opponent.opponent-index _ c.in_ok-mark.mark (omega (arith, c.loop-opponent-test.true))
      c.loop-opponent.invariant.0 c.in_ok-mark.ensures),
  omega (arith, c.push.ensures.len, c.loop-opponent.invariant.1),
)
