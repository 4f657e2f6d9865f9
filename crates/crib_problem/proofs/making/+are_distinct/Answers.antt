use Rattle.std.proofs.Common.{◌≡◌, rules, not, ◌||◌, [], ap, ◌∙◌}
use Rattle.crib_cards.specs.Sets.{has}
use Rattle.crib_cards.proofs.SetLemmas.{has-set_where}
use Rattle.crib_problem.proofs.making.+are_distinct.Goals as goal

pub returns-then-are_distinct-clause-value : goal.returns-then-are_distinct-clause-value
returns-then-are_distinct-clause-value t c =
    let card = c.in-Some.card.now in
    let rest = c.in-Some.rest.now in
    let same : has c.with_all.result card ≡ has rest card =
    rw (c.with_all.ensures, c.new.ensures) (has-set_where (λ other. has [] other || has rest other) card c.insert-is_new.ensures.range) in
    let is_new : c.insert-is_new.result ≡ not (has rest card) = c.insert-is_new.ensures.new ∙ ap not same in
    search (rules, is_new)
