use Rattle.std.proofs.Common.{◌≡◌, eqb, Some, false, refl, sym, ap, ◌∙◌, arith}
use Rattle.std.proofs.lemmas.Bool.Decides.{nat_tests}
use Rattle.crib_problem.specs.Refusals.{already_over, problem_cause_number}
use Rattle.crib_problem.specs.Setup.{opening_basis_of}
use Rattle.crib_next.specs.Next.{acts_with, unless_ending}
use Rattle.crib_next.proofs.TurnRefusals.{by_none, by_rule, ending_passes, ends, of_no_game}
use Rattle.crib_next.proofs.WalkedTurns.{after_more, not_over, refusal_same, stray_same}
use Rattle.crib_next.proofs.walk.after.Goals as goal

pub returns-then-number-ne24-clause-next : goal.returns-then-number-ne24-clause-next
returns-then-number-ne24-clause-next g c = λ problem before is.
    let none = not_over problem c.args.plan.now before c.args.at.now c.args.place is in
    let same = refusal_same problem c.args.plan.now before c.args.at.now c.args.place is c.args.turn.now in
    let other : eqb (problem_cause_number c.in-Err.cause) already_over ≡ false = grind (arith, nat_tests, c.number.ensures, c.if-number-ne24.true) in
    rw c.wrong.ensures (by_rule problem c.args.plan.now before c.args.turn.now none _ (sym same ∙ c.in-Err.ensures.exact) other, refl)

pub returns-else-strays-clause-next : goal.returns-else-strays-clause-next
returns-else-strays-clause-next g c = λ problem before is.
    let plan = c.args.plan.now in
    let turn = c.args.turn.now in
    let none = not_over problem plan before c.args.at.now c.args.place is in
    let rule = sym (refusal_same problem plan before c.args.at.now c.args.place is turn) ∙ c.in-Ok.ensures.exact.0 in
    let stray = sym (stray_same problem plan before c.args.at.now c.args.place is turn) ∙ sym c.strays.ensures ∙ c.if-strays.false in (
      by_none problem plan before turn none (ap unless_ending rule) stray,
      after_more problem plan before c.args.at.now c.args.place is turn _ c.in-Ok.ensures.setup c.in-Ok.ensures.exact.1,
    )

pub returns-else-strays-2-clause-next : goal.returns-else-strays-2-clause-next
returns-else-strays-2-clause-next g c = λ problem before is.
    let plan = c.args.plan.now in
    let turn = c.args.turn.now in
    let none = not_over problem plan before c.args.at.now c.args.place is in
    let end : problem_cause_number c.in-Err.cause ≡ already_over = grind (arith, nat_tests, c.number.ensures, c.if-number-ne24.false) in
    let rule = sym (refusal_same problem plan before c.args.at.now c.args.place is turn) ∙ c.in-Err.ensures.exact ∙ ap Some end in
    let stray = sym (stray_same problem plan before c.args.at.now c.args.place is turn) ∙ sym c.strays-in-Err.ensures ∙ c.if-strays-2.false in
    (by_none problem plan before turn none (ending_passes _ rule) stray, ends (opening_basis_of problem) (acts_with problem before) turn rule)

pub returns-then-number-ne24-clause-cause : goal.returns-then-number-ne24-clause-cause
returns-then-number-ne24-clause-cause g c = rw c.wrong.ensures (of_no_game c.args.number c.in-Err.cause)
