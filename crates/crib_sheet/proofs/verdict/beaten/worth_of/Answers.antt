use Rattle.std.proofs.lemmas.Bool.{both_ways}
use Rattle.crib_sheet.proofs.verdict.beaten.worth_of.Goals as goal

pub returns-then-is_for_all_players-clause-strategy : goal.returns-then-is_for_all_players-clause-strategy
returns-then-is_for_all_players-clause-strategy g c pone = c.bound_of.ensures.strategy

pub returns-clause-strategy : goal.returns-clause-strategy
returns-clause-strategy g c pone = absurd (both_ways _ c.if-is_for_all_players.false (c.is_for_all_players.ensures.exact.1 pone))
