use Rattle.std.proofs.Common.{◌≡◌, ◌&&◌, Bool, get_or, ap, ◌∙◌, arith}
use Rattle.crib_show.specs.declared.demands.Demand.{Demand}
use Rattle.crib_sure.specs.Shows.{meets}
use Rattle.crib_bound.proofs.GradeCounts.{grade_first, grade_step}
use Rattle.crib_bound.proofs.grades.first_of.Goals as goal

pub loop-index-init : goal.loop-index-init
loop-index-init c = λ problem dealt. grade_first problem dealt c.args.ladder.now _ (omega (arith, c.told-ladder))

pub loop-index-preserved : goal.loop-index-preserved
loop-index-preserved c = λ problem dealt.
    let none : Demand = record { hand = 0; total = 0; crib = 0 } in
    c.and-first.ensures _ _
    ∙ ap (λ (b : Bool). b && meets problem (get_or c.args.ladder.now c.loop-index.index none) dealt) (c.loop-index.invariant problem dealt)
    ∙ grade_step problem dealt c.args.ladder.now c.loop-index.index none (omega (arith, c.told-ladder, c.loop-index-test.true, c.requires.few))

pub returns : goal.returns
returns c = λ problem dealt.
    let whole : c.loop-index.index ≡ c.args.count =
    omega (arith, c.loop-index.auto.index-end (omega (arith, c.requires.some)), c.loop-index-test.false) in
    rw whole at (c.loop-index.invariant problem dealt)
