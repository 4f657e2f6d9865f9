use Rattle.std.proofs.Common.{ℕ, take, sym, ap, ◌∙◌, arith}
use Rattle.crib_cards.specs.declared.moves.Move.TheVariants as move
use Rattle.crib_play.specs.History.{Own, Theirs}
use Rattle.crib_search.proofs.FoundAfterTurns.{goes_on}
use Rattle.crib_search.proofs.CardsToTry.{none_fits}
use Rattle.crib_search.proofs.tries.survey.Survey.+tracing.Goals as goal

pub trace-trace_own-requires : goal.trace-trace_own-requires
trace-trace_own-requires g t c κs within = (omega arith, (within, record { here = c.requires.here; asked = sym c.in-Owner.ensures }))

pub trace-trace_theirs-requires : goal.trace-trace_theirs-requires
trace-trace_theirs-requires g t c κs within = (omega arith, (within, record { here = c.requires.here; asked = sym c.in-Opponent.ensures }))

pub trace_own-own_go-requires-clause-none : goal.trace_own-own_go-requires-clause-none
trace_own-own_go-requires-clause-none g t c =
    none_fits c.args.know.now c.copy-next.result c.args.problem.now c.requires.turn.here.0 c.requires.turn.here.1 c.copy-next.ensures
    (sym (c.options-cards.ensures.cards c.requires.turn.here.0 c.requires.turn.here.1) ∙ ap (λ (len : ℕ). take len c.options-cards.result.0) c.if-len-eq0.true)

pub trace_own-trace-requires : goal.trace_own-trace-requires
trace_own-trace-requires g t c κs within =
    let on = goes_on c.args.know.now c.copy-next.result c.own_go.new.self (Own move.Go) c.copy-next.ensures c.own_go.ensures
    c.args.problem.now c.requires.turn.here in
    (omega (arith, on.1), (within, on.0))

pub trace_own-trace_after-requires : goal.trace_own-trace_after-requires
trace_own-trace_after-requires g t c κs within =
    let playable = c.options-cards.ensures.playable c.card_of-card.result.0 c.card_of-card.ensures in
    (omega arith, (within, (c.requires.turn, (playable.0, playable.1))))

pub trace_after-trace-requires : goal.trace_after-trace-requires
trace_after-trace-requires g t c κs within =
    let on = goes_on c.args.know.now c.copy-next.result c.own_play.new.self (Own (move.Card c.args.card)) c.copy-next.ensures c.own_play.ensures
    c.args.problem.now c.requires.turn.here in
    (omega (arith, on.1), (within, on.0))

pub trace_theirs-saw-requires : goal.trace_theirs-saw-requires
trace_theirs-saw-requires g t c = rw c.copy-next.ensures (c.can_show.ensures.shown c.if-not-can_show.false)

pub trace_theirs-trace-requires : goal.trace_theirs-trace-requires
trace_theirs-trace-requires g t c κs within =
    let on = goes_on c.args.know.now c.copy-next.result c.saw.new.self (Theirs c.letter_to-letter.result) c.copy-next.ensures c.saw.ensures
    c.args.problem.now c.requires.turn.here in
    (omega (arith, on.1), (within, on.0))
