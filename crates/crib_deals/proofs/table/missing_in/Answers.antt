use Rattle.std.proofs.Common.{inl, inr, arith}
use Rattle.crib_deals.proofs.TableRows.{row_missed, row_missing}
use Rattle.crib_deals.proofs.table.missing_in.Goals as goal

pub returns-then-hand-demand-clause-exact : goal.returns-then-hand-demand-clause-exact
returns-then-hand-demand-clause-exact c = λ behind suits row.
    row_missed row.setup c.args.demand suits c.args.hand c.args.below.now row
    (elim c.then-hand-demand.either [ inl hand ↦ inl hand | inr total ↦ inr total.1 ])

pub overflow_sub-result : goal.overflow_sub-result
overflow_sub-result c =
    let some = c.requires in
    (row_missing some.2.setup c.args.demand some.1 c.args.hand c.args.below.now some.2 _ _ c.if-hand-demand.false c.if-hand-demand-2.false
    (omega (arith, c.min-past.ensures)) c.min-least.ensures).0

pub overflow_sub-result-2 : goal.overflow_sub-result-2
overflow_sub-result-2 c =
    let some = c.requires in
    (row_missing some.2.setup c.args.demand some.1 c.args.hand c.args.below.now some.2 _ _ c.if-hand-demand.false c.if-hand-demand-2.false
    (omega (arith, c.min-past.ensures)) c.min-least.ensures).1

pub returns-clause-exact : goal.returns-clause-exact
returns-clause-exact c = λ behind suits row.
    (row_missing row.setup c.args.demand suits c.args.hand c.args.below.now row _ _ c.if-hand-demand.false c.if-hand-demand-2.false
    (omega (arith, c.min-past.ensures)) c.min-least.ensures).2
