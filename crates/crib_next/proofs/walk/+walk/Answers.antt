use Rattle.std.proofs.Common.{◌+◌, ◌∷◌, Result, sym, subst, arith}
use Rattle.crib_text.specs.Refusals.{Refusal}
use Rattle.crib_text.specs.Reading.{Gives}
use Rattle.crib_plan.specs.declared.plan.Next.{Next}
use Rattle.crib_next.specs.declared.next.NextTurn.{NextTurn}
use Rattle.crib_next.specs.Private.Walking.{IsAfter, wrong_line}
use Rattle.crib_next.proofs.WalkedTurns.{from_first}
use Rattle.crib_next.proofs.walk.+walk.Goals as goal

pub returns-in-Some-clause-next : goal.returns-in-Some-clause-next
returns-in-Some-clause-next g t c = λ problem before first is.
    let plan = c.args.plan.now in
    let turn = c.turn-item.result in
    let done = c.in_ok-later.ensures.next problem before is in
    let next = rw c.in-Some.is at done.1 in
    let P : Next → Type 0 = λ place. IsAfter problem plan (turn ∷ before) c.in-Some.later place in
    let G : Result NextTurn Refusal → Type 0 = λ said. Gives (λ next. next) (wrong_line first) c.walk.result said in
    subst G (from_first problem plan before c.args.turns.now turn (first + c.args.number) (first + (c.args.number + 1)) c.in-len1-up.len_at_least
    c.turn-item.is done.0 (omega arith))
    (c.walk.ensures.next problem (turn ∷ before) first (subst P (sym c.place_with.ensures) next))

pub returns-in-None-clause-next : goal.returns-in-None-clause-next
returns-in-None-clause-next g t c = λ problem before first is.
    let plan = c.args.plan.now in
    let turn = c.turn-item.result in
    let done = c.in_ok-later.ensures.next problem before is in
    let over = rw c.in-None.is at done.1 in
    let G : Result NextTurn Refusal → Type 0 = λ said. Gives (λ next. next) (wrong_line first) c.ended.result said in
    subst G (from_first problem plan before c.args.turns.now turn (first + c.args.number) (first + (c.args.number + 1)) c.in-len1-up.len_at_least
    c.turn-item.is done.0 (omega arith))
    (c.ended.ensures.next problem plan (turn ∷ before) first over)
