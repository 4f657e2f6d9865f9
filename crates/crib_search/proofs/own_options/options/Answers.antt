use Rattle.std.proofs.Common.{◌≡◌, ℕ, ◌<◌, List, length, get_or, take, sym, ap, ◌∙◌, arith}
use Rattle.std.proofs.lemmas.List.{length-take-le}
use Rattle.crib_search.proofs.CardsToTry.{options_end, options_playable, step_skip, step_same, step_new}
use Rattle.crib_search.proofs.own_options.options.Goals as goal
use Rattle.crib_search.proofs.own_options.options.Goals.{then-may_play+then-not-has_rank, else-may_play, else-may_play-via-then-may_play+else-not-has_rank}
use Rattle.crib_search.proofs.own_options.options.Goals.{else-may_play-via-else-may_play}

pub loop-card-preserved : goal.loop-card-preserved
loop-card-preserved c =
    let hold : List ℕ = c.hold-hold.result in
    let four : length hold ≡ 4 = ap length c.hold-hold.ensures ∙ c.requires.1.setup.held in
    let card : ℕ = get_or hold c.loop-card.card-index c.card-item.result in
    let is : card ≡ get_or hold c.loop-card.card-index card = ap (get_or hold c.loop-card.card-index) c.card-item.is in
    let within : c.loop-card.card-index < length hold = omega (arith, four, c.loop-card-test.true) in
    elim c.if-may_play.branch [
      | then-may_play+then-not-has_rank w ↦
          rw (w.len-is, w.cards-is)
          (step_new c.args.know.now hold c.loop-card.card-index c.loop-card.len c.loop-card.cards c.loop-card.invariant within card is w.rank.result
          w.rank.ensures.value four (sym w.if-may_play.ensures) (sym w.if-not-has_rank.ensures))
      | else-may_play w ↦
          rw (w.len-is, w.cards-is)
          (elim w.else-may_play.branch [
            | else-may_play-via-then-may_play+else-not-has_rank v ↦
                step_same c.args.know.now hold c.loop-card.card-index c.loop-card.len c.loop-card.cards c.loop-card.invariant within card is v.rank.result
                v.rank.ensures.value (sym v.if-may_play.ensures) (sym v.has_rank.ensures ∙ v.if-not-has_rank.false)
            | else-may_play-via-else-may_play v ↦
                step_skip c.args.know.now hold c.loop-card.card-index c.loop-card.len c.loop-card.cards c.loop-card.invariant within card is
                (sym v.if-may_play.ensures)
          ])
    ]

pub returns-clause-cards : goal.returns-clause-cards
returns-clause-cards c = λ history knows.
    options_end c.args.know.now c.args.problem.now history knows c.hold-hold.result c.loop-card.cards c.loop-card.card-index c.loop-card.len c.hold-hold.ensures
    c.loop-card-test.false c.loop-card.invariant

pub returns-clause-playable : goal.returns-clause-playable
returns-clause-playable c = λ card held.
    options_playable c.args.know.now (take c.loop-card.card-index c.hold-hold.result) card (rw c.loop-card.invariant.2 at held)

pub returns-clause-whole : goal.returns-clause-whole
returns-clause-whole c =
    length-take-le c.loop-card.len c.loop-card.cards (omega (arith, c.loop-card.invariant.0, c.loop-card.invariant.1, c.loop-card.auto.card-index-end))
