use Rattle.std.proofs.Common.{ap, ◌∙◌}
use Rattle.crib_know.specs.Knowledge.{Knowledge, played_events}
use Rattle.crib_leads.proofs.EndedTurns.{over_now}
use Rattle.crib_leads.proofs.ended.ended_verdict.Goals as goal

pub returns-in_default : goal.returns-in_default
returns-in_default c = λ dealt agrees.
    let problem = c.args.problem.now in
    let none = rw c.in_default.is at (c.with_turn.ensures problem (played_events problem) c.start-know.ensures) in
    absurd (none (dealt, agrees))

pub unreachable-requires : goal.unreachable-requires
unreachable-requires c =
    let problem = c.args.problem.now in
    let next = rw c.in-Some.is at (c.with_turn.ensures problem (played_events problem) c.start-know.ensures) in
    c.in_default-turn.not-Over (c.turn.ensures ∙ ap (λ (k : Knowledge). k.round.asked) next.knowledge ∙ over_now problem c.args.act.now c.requires)
