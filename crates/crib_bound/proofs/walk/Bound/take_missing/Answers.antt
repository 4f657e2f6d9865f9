use Rattle.std.proofs.Common.{◌≡◌, ◌<◌, eqb, get_or, length, true, refl, arith, rules}
use Rattle.std.proofs.lemmas.Bool.{eq-eqb}
use Rattle.std.proofs.lemmas.List.Folds.{list_any_at}
use Rattle.crib_cards.specs.Sets.{has}
use Rattle.crib_bound.proofs.Taken.{more_counted, none_counted}
use Rattle.crib_bound.proofs.walk.Bound.take_missing.Goals as goal

pub loop-index-init : goal.loop-index-init
loop-index-init c = none_counted

pub loop-index-preserved : goal.loop-index-preserved
loop-index-preserved c =
    let at = get_or c.args.indices.now c.loop-index.index-index 0 in
    let small = c.requires c.loop-index.index-index 0 c.loop-index-test.true in
    let inside : at < length c.loop-index.amounts = search (rules, arith) in
    let here : has c.args.indices.now at ≡ true =
    list_any_at (λ other. eqb other at) c.args.indices.now c.loop-index.index-index 0 c.loop-index-test.true (eq-eqb at at refl) in
    more_counted at inside here c.missing_at-count.ensures (omega (arith, c.saturating_add-sum.ensures, c.saturating_mul.ensures)) c.loop-index.invariant
