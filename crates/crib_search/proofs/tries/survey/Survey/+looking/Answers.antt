use Rattle.std.proofs.Common.{ℕ, take, sym, ap, ◌∙◌, get_or, arith}
use Rattle.crib_cards.specs.declared.moves.Move.TheVariants as move
use Rattle.crib_play.specs.History.{Own, Theirs}
use Rattle.crib_search.proofs.FoundAfterTurns.{goes_on}
use Rattle.crib_search.proofs.CardsToTry.{has_first, none_fits}
use Rattle.crib_search.proofs.tries.survey.Survey.+looking.Goals as goal

pub look_at-look_own-requires : goal.look_at-look_own-requires
look_at-look_own-requires g t c κs within = (omega arith, (within, record { here = c.requires.here; asked = sym c.in-Owner.ensures }))

pub look_at-look_theirs-requires : goal.look_at-look_theirs-requires
look_at-look_theirs-requires g t c κs within = (omega arith, (within, record { here = c.requires.here; asked = sym c.in-Opponent.ensures }))

pub look_own-own_go-requires-clause-none : goal.look_own-own_go-requires-clause-none
look_own-own_go-requires-clause-none g t c =
    none_fits c.args.know.now c.copy-next.result c.args.problem.now c.requires.turn.here.0 c.requires.turn.here.1 c.copy-next.ensures
    (sym (c.options-cards.ensures.cards c.requires.turn.here.0 c.requires.turn.here.1) ∙ ap (λ (len : ℕ). take len c.options-cards.result.0) c.if-len-eq0.true)

pub look_own-look_at-requires : goal.look_own-look_at-requires
look_own-look_at-requires g t c κs within =
    let on = goes_on c.args.know.now c.copy-next.result c.own_go.new.self (Own move.Go) c.copy-next.ensures c.own_go.ensures
    c.args.problem.now c.requires.turn.here in
    (omega (arith, on.1), (within, on.0))

pub look_own-look_after-requires : goal.look_own-look_after-requires
look_own-look_after-requires g t c κs within =
    let playable = c.options-cards.ensures.playable (get_or c.options-cards.result.0 0 c.index-cards-0.result)
    (has_first _ c.options-cards.result.1 c.index-cards-0.result c.if-len-eq1.true c.options-cards.ensures.whole) in
    (omega arith, (within, (c.requires.turn, (playable.0, playable.1))))

pub look_own-look_each-requires : goal.look_own-look_each-requires
look_own-look_each-requires g t c κs within =
    (omega arith, (within, (c.requires.turn, c.options-cards.ensures.playable)))

pub look_after-look_at-requires : goal.look_after-look_at-requires
look_after-look_at-requires g t c κs within =
    let on = goes_on c.args.know.now c.copy-next.result c.own_play.new.self (Own (move.Card c.args.card)) c.copy-next.ensures c.own_play.ensures
    c.args.problem.now c.requires.turn.here in
    (omega (arith, on.1), (within, on.0))

pub look_theirs-look_at-requires : goal.look_theirs-look_at-requires
look_theirs-look_at-requires g t c κs within =
    let on = goes_on c.args.know.now c.copy-next.result c.saw.new.self (Theirs c.at-letter.result) c.copy-next.ensures c.saw.ensures
    c.args.problem.now c.requires.turn.here in
    (omega (arith, on.1), (within, on.0))

pub look_each-look_after-requires : goal.look_each-look_after-requires
look_each-look_after-requires g t c κs within =
    let playable = c.requires.playable c.card_at-card.result c.card_at-card.ensures in
    (omega arith, (within, (c.requires.turn, playable)))

pub look_theirs-saw-requires : goal.look_theirs-saw-requires
look_theirs-saw-requires g t c = rw c.copy-next.ensures (c.can_show.ensures.shown c.if-can_show.true)
