use Rattle.std.proofs.Common.{◌<◌, length, get_or, sym, ap, ◌∙◌, arith}
use Rattle.crib_problem.specs.Setup.{known_cards}
use Rattle.crib_game.specs.Replay.{deal_fault, first_seen}
use Rattle.crib_game.proofs.DealLemmas.{looked_stop, looked_next}
use Rattle.crib_game.proofs.replaying.judge.deal_fault.Goals as goal

pub returns-then-not-insert-clause-fault : goal.returns-then-not-insert-clause-fault
returns-then-not-insert-clause-fault c =
    let known = known_cards c.args.problem.now in
    let cards = c.six_cards-card-items.result in
    let i = c.loop-card.card-index in
    let inside : i < length cards = omega arith in
    sym (ap (λ six. deal_fault (first_seen known 1 six)) (sym c.six_cards-card-items.ensures.cards)
    ∙ ap deal_fault (looked_stop known cards c.loop-card.seen i c.loop-card.number (get_or cards i c.card-item.result) c.loop-card.invariant inside
    (ap (get_or cards i) c.card-item.is) c.insert.ensures.range (sym c.insert.ensures.new ∙ c.if-not-insert.true)))

pub loop-card-preserved : goal.loop-card-preserved
loop-card-preserved c =
    let cards = c.six_cards-card-items.result in
    let i = c.loop-card.card-index in
    let inside : i < length cards = omega arith in
    looked_next (known_cards c.args.problem.now) cards c.loop-card.seen i c.loop-card.number (get_or cards i c.card-item.result) c.loop-card.invariant inside
    (ap (get_or cards i) c.card-item.is) c.insert.ensures.range
    c.insert.new.self (sym c.insert.ensures.new ∙ c.if-not-insert.false) c.insert.ensures.set
