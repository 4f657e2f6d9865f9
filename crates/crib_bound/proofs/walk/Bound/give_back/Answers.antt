use Rattle.std.proofs.Common.{◌≡◌, ◌≤◌, ◌<◌, ℕ, List, ◌+◌, ◌-◌, ◌*◌, ◌/◌, ◌∙◌, eqb, get_or, length, set, true, refl, subst, arith}
use Rattle.std.proofs.Math.ListN.{length-set}
use Rattle.std.proofs.Math.Nat.{min-le_right}
use Rattle.std.proofs.lemmas.Bool.{eq-eqb}
use Rattle.std.proofs.lemmas.List.Folds.{list_any_at}
use Rattle.crib_cards.specs.Sets.{has}
use Rattle.crib_bound.specs.Private.Walks.{AreGivenBack, with_parts}
use Rattle.crib_bound.proofs.Taken.{more_back, none_back, part_of_rest, still_most}
use Rattle.crib_bound.proofs.PutParts.{with_raised}
use Rattle.crib_bound.proofs.walk.Bound.give_back.Goals as goal

pub loop-at-init : goal.loop-at-init
loop-at-init g c = record { few = omega arith; back = λ amounts long. none_back; less = λ place most low also. low; room = refl }

pub loop-at-preserved : goal.loop-at-preserved
loop-at-preserved g c =
    let place = c.loop-at.at in
    let at = get_or c.args.indices.now place 0 in
    let weight = get_or c.args.self.now.weights.now at 0 in
    let here : has c.args.indices.now at ≡ true =
    list_any_at (λ other. eqb other at) c.args.indices.now place 0 c.loop-at-test.true (eq-eqb at at refl) in
    let inside : place < length c.loop-at.parts = omega (arith, c.loop-at-test.true, c.loop-at.invariant.room, c.requires.room) in
    let rest = c.loop-at.rest in
    let back = c.min-more.result * weight in
    let few : back ≤ rest = part_of_rest c.min-more.result rest weight c.saturating_sub-free.result c.min-more.ensures in
    let free = min-le_right (rest / weight) c.saturating_sub-free.result in
    let same : (c.args.most - rest) + back ≡ c.args.most - (rest - back) = omega (arith, few, c.loop-at.invariant.few) in
    let with : List ℕ → List ℕ → List ℕ = λ parts amounts. with_parts c.args.indices.now parts (length c.args.indices.now) amounts in
    let raised = set c.loop-at.parts place (get_or c.loop-at.parts place 0 + c.min-more.result) in
    record {
      few = omega (arith, c.loop-at.invariant.few);
      back = λ amounts long. subst (λ n. AreGivenBack c.args.self.now c.args.indices.now (with c.args.parts.now amounts) (with raised amounts) n) same
          (more_back at c.min-more.result weight here refl
          (λ index. with_raised c.args.indices.now amounts c.requires.small long c.loop-at.parts place c.min-more.result (length c.args.indices.now) index
          (omega arith) inside) (c.loop-at.invariant.back amounts long));
      less = still_most c.args.parts.now c.args.other.now c.loop-at.parts place c.min-more.result inside
          (omega (arith, c.min-more.ensures, free, c.saturating_sub-free.ensures)) c.loop-at.invariant.less;
      room = length-set _ _ _ ∙ c.loop-at.invariant.room;
    }
