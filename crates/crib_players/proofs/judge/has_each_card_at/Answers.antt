use Rattle.std.proofs.Common.{◌-◌, ℕ, List, length, get_or, refl, sym, ap, ◌∙◌, arith}
use Rattle.std.proofs.lemmas.List.{length-take-le}
use Rattle.crib_cards.specs.Cards.{rank_value}
use Rattle.crib_game.specs.declared.replaying.report.Row.{Row}
use Rattle.crib_players.proofs.Judged.{inside_acts, row_count, row_each, row_free}
use Rattle.crib_players.proofs.judge.has_each_card_at.Goals as goal

pub overflow_sub-count : goal.overflow_sub-count
overflow_sub-count c =
    let row = c.index-deref-turn.result in
    let at = c.index-deref-turn.is ∙ ap (λ (rows : List Row). get_or rows c.args.turn row) c.deref.ensures.0 in
    let count = row_count c.args.problem.now c.args.game.now c.args.turn c.args.report.now row c.requires.report c.requires.inside at c.in-Some.card
    (sym c.owners_card.ensures ∙ c.in-Some.is) in
    rw (c.value.ensures.value, c.rank.ensures.value) (omega (arith, count))

pub slice_bounds-has_each-end-in-Some : goal.slice_bounds-has_each-end-in-Some
slice_bounds-has_each-end-in-Some c =
    let row = c.index-deref-turn.result in
    let at = c.index-deref-turn.is ∙ ap (λ (rows : List Row). get_or rows c.args.turn row) c.deref.ensures.0 in
    let inside = inside_acts c.args.problem.now c.args.game.now c.args.turn c.args.report.now row c.requires.report c.requires.inside at in
    let long = ap length c.deref-in-Some.ensures.0 in
    sym (length-take-le c.args.turn c.deref-in-Some.result.now (omega (arith, inside, long)))

pub returns-in-Some : goal.returns-in-Some
returns-in-Some c =
    let row = c.index-deref-turn.result in
    let at = c.index-deref-turn.is ∙ ap (λ (rows : List Row). get_or rows c.args.turn row) c.deref.ensures.0 in
    rw (c.has_each.ensures, c.hold.ensures, c.deref-in-Some.ensures.0)
    (row_each c.args.problem.now c.args.game.now c.args.turn c.args.report.now row c.requires.report c.requires.inside at c.args.games.now c.in-Some.card
    (row.count - c.value.result) (sym c.owners_card.ensures ∙ c.in-Some.is)
    (ap (λ (value : ℕ). row.count - value) (c.value.ensures.value ∙ ap rank_value c.rank.ensures.value)))

pub returns-in-None : goal.returns-in-None
returns-in-None c =
    let row = c.index-deref-turn.result in
    let at = c.index-deref-turn.is ∙ ap (λ (rows : List Row). get_or rows c.args.turn row) c.deref.ensures.0 in (
      λ _. row_free c.args.problem.now c.args.game.now c.args.turn c.args.report.now row c.requires.report c.requires.inside at c.args.games.now
          (sym c.owners_card.ensures ∙ c.in-None.is),
      λ _. refl,
    )
