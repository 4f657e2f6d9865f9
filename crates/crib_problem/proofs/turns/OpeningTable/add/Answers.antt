use Rattle.std.proofs.Common.{sym, ap, inl, inr, ◌∙◌}
use Rattle.crib_problem.specs.Private.Refusals.{cause_number_if}
use Rattle.crib_problem.proofs.TableLemmas.{added, end_refusal}
use Rattle.crib_problem.proofs.turns.OpeningTable.add.Goals as goal

pub returns-in-Over-clause-added : goal.returns-in-Over-clause-added
returns-in-Over-clause-added c = λ basis before after.
    added c.args.self.now c.take.new.self basis before c.args.act.now _ after (c.take.ensures.taken basis before after)
    (sym c.turn_refusal.ensures ∙ ap cause_number_if c.in_default.is) (sym c.in-Over.is ∙ c.next.ensures)

pub returns-in-Owner-clause-added : goal.returns-in-Owner-clause-added
returns-in-Owner-clause-added c = λ basis before after.
    let taken = c.take.ensures.taken basis before after in
    let none = sym c.turn_refusal.ensures ∙ ap cause_number_if c.in_default.is in
    let ended = added c.args.self.now c.take.new.self basis before c.args.act.now _ after taken none c.next.ensures in
    (ended ∙ elim c.in-Owner.is [ inl is ↦ ap end_refusal is | inr is ↦ ap end_refusal is ], taken)
