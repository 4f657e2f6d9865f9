use Rattle.std.proofs.Common.{◌≡◌, ◌<◌, ◌∙◌, eqb, get_or, length, true, false, refl, subst, arith, rules}
use Rattle.std.proofs.Math.Nat.{min-le_right}
use Rattle.std.proofs.lemmas.Bool.{both_ways, eq-eqb}
use Rattle.std.proofs.lemmas.List.{get_or-set_other}
use Rattle.std.proofs.lemmas.List.Folds.{list_any_at}
use Rattle.crib_cards.specs.Sets.{has}
use Rattle.crib_bound.proofs.Taken.{one_held}
use Rattle.crib_bound.proofs.entries.hold_back.Goals as goal

pub loop-at-preserved : goal.loop-at-preserved
loop-at-preserved g c =
    let at = get_or c.args.indices.now c.loop-at.at 0 in
    let small = c.requires.small c.loop-at.at 0 c.loop-at-test.true in
    let inside : at < length c.loop-at.amounts = search (rules, arith) in
    let here : has c.args.indices.now at ≡ true =
    list_any_at (λ other. eqb other at) c.args.indices.now c.loop-at.at 0 c.loop-at-test.true (eq-eqb at at refl) in
    let few = min-le_right c.allowed.result (get_or c.loop-at.amounts at 0) in
    record {
      held = one_held c.args.indices.now c.loop-at.held c.loop-at.amounts (λ index. get_or c.args.amounts.now index 0) c.loop-at.at c.min-allowed.result
          (omega (arith, c.loop-at-test.true, c.loop-at.invariant.room, c.requires.room)) inside (omega (arith, few, c.min-allowed.ensures))
          c.loop-at.invariant.held;
      elsewhere = λ index none.
          get_or-set_other c.loop-at.amounts at index c.min-allowed.result 0
          (λ same. both_ways (has c.args.indices.now at) (subst (λ (one : _). has c.args.indices.now one ≡ false) same none) here)
          ∙ c.loop-at.invariant.elsewhere index none;
      room = search (rules, c.loop-at.invariant.room);
    }
