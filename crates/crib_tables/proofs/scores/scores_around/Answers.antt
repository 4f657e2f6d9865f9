use Rattle.std.proofs.Common.{◌≡◌, ℕ, ap, arith, min, ◌∙◌, subst}
use Rattle.crib_tables.specs.Scores.{numbers_from}
use Rattle.crib_tables.proofs.ScoreTables.{AreSoFar, all_numbers, no_number, one_number}
use Rattle.crib_tables.proofs.scores.scores_around.Goals as goal

pub loop-step-init : goal.loop-step-init
loop-step-init c = rw c.new-scores.ensures (no_number c.min-first.result)

pub loop-step-preserved : goal.loop-step-preserved
loop-step-preserved c = rw c.push.ensures.items (one_number _ _ _ (omega (arith, c.loop-step-test.true)) c.loop-step.invariant)

pub returns-clause-value : goal.returns-clause-value
returns-clause-value c =
    let end : c.loop-step.step ≡ 21 = omega (arith, c.loop-step.auto.step-end, c.loop-step-test.false) in
    all_numbers _ _ (subst (λ (step : ℕ). AreSoFar c.min-first.result step c.loop-step.scores.items) end c.loop-step.invariant)
    ∙ ap (numbers_from 21) (c.min-first.ensures ∙ ap (λ (first : ℕ). min first 100) c.saturating_sub.ensures)

pub returns-clause-few : goal.returns-clause-few
returns-clause-few c = omega (arith, c.loop-step.invariant.long, c.loop-step.auto.step-end, c.loop-step-test.false)
