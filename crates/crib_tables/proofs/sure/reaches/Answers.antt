use Rattle.std.proofs.Common.{ap, ◌∙◌}
use Rattle.std.proofs.lemmas.Bool.{both_ways}
use Rattle.crib_know.specs.Knowledge.{Knowledge, played_events}
use Rattle.crib_cards.specs.declared.sides.Side.TheVariants.{Owner}
use Rattle.crib_leads.proofs.EndedTurns.{over_now, own_can}
use Rattle.crib_tables.proofs.SureTurns.{yes}
use Rattle.crib_tables.proofs.sure.reaches.Goals as goal

pub returns-then-not-can_do : goal.returns-then-not-can_do
returns-then-not-can_do c = yes (λ dealt agrees.
    absurd (both_ways c.can_do.result c.if-not-can_do.true
    (c.can_do.ensures.1 (own_can _ c.args.problem.now (played_events c.args.problem.now) c.args.what.now c.start-know.ensures (dealt, agrees)))))

pub is_reached-requires-clause-over : goal.is_reached-requires-clause-over
is_reached-requires-clause-over c =
    let next = c.did.ensures c.args.problem.now (played_events c.args.problem.now) c.start-know.ensures in
    ap (λ (k : Knowledge). k.round.asked) next.knowledge ∙ over_now c.args.problem.now (record { side = Owner; what = c.args.what.now }) c.requires

pub is_reached-requires-clause-known : goal.is_reached-requires-clause-known
is_reached-requires-clause-known c = (_, c.did.ensures c.args.problem.now (played_events c.args.problem.now) c.start-know.ensures)

pub returns : goal.returns
returns c =
    c.is_reached.ensures.reached _ (c.did.ensures c.args.problem.now (played_events c.args.problem.now) c.start-know.ensures)
