use Rattle.std.proofs.Common.{sym, ◌∙◌}
use Rattle.crib_beaten.proofs.HoldNumbers.{is_choice, is_no_choice}
use Rattle.crib_beaten.proofs.tally.choice_at.Goals as goal

pub returns-then-are_in_order-clause-choice : goal.returns-then-are_in_order-clause-choice
returns-then-are_in_order-clause-choice c = is_choice c.ranks_at-ranks.ensures c.requires (sym c.are_in_order.ensures ∙ c.if-are_in_order.true)

pub returns-else-are_in_order-clause-none : goal.returns-else-are_in_order-clause-none
returns-else-are_in_order-clause-none c = is_no_choice c.ranks_at-ranks.ensures (sym c.are_in_order.ensures ∙ c.if-are_in_order.false)
