use Rattle.std.proofs.Common.{◌≡◌, ◌&&◌, ◌/◌, ◌<◌, ◌∙◌, [], eqb, false, get_or, length, take, true, refl, rules, sym, ap, arith}
use Rattle.std.proofs.lemmas.Bool.{and_from, both_ways, eq-eqb}
use Rattle.std.proofs.lemmas.List.{get_or_default, take_more_set}
use Rattle.std.proofs.lemmas.List.Elements.{All-nil, All-push}
use Rattle.std.proofs.lemmas.List.Folds.{list_any_at}
use Rattle.crib_cards.specs.Sets.{has}
use Rattle.crib_beaten.specs.Beaten.{counts_of, may_show}
use Rattle.crib_bound.proofs.Taken.{one_kept}
use Rattle.crib_bound.proofs.entries.keep_indices.Goals as goal

pub loop-index-init : goal.loop-index-init
loop-index-init c = record { few = omega arith; long = refl; kept = λ index h. absurd (both_ways false refl h); small = All-nil _ }

pub loop-index-preserved : goal.loop-index-preserved
loop-index-preserved c =
    let at = get_or c.args.indices.now c.loop-index.index-index 0 in
    let small = c.requires.small c.loop-index.index-index 0 c.loop-index-test.true in
    let room : c.loop-index.count < length c.loop-index.left =
    omega (arith, c.loop-index-test.true, c.loop-index.invariant.few, c.loop-index.invariant.long, c.requires.room) in
    let here : has c.args.indices.now at ≡ true =
    list_any_at (λ other. eqb other at) c.args.indices.now c.loop-index.index-index 0 c.loop-index-test.true (eq-eqb at at refl) in
    let choice = get_or_default c.args.choices.now (at / 16) [] c.index-choices-choice.result (omega (arith, small, c.told-choices)) in
    let may = ap (may_show c.args.before.now c.args.after.now c.args.letter.now) choice ∙ sym c.may_show.ensures ∙ c.if-not-may_show.false in
    let longer = take_more_set c.loop-index.left c.loop-index.count at room in
    record {
      few = omega (arith, c.loop-index.invariant.few);
      long = search rules;
      kept = one_kept (λ index. has c.args.indices.now index
          && may_show c.args.before.now c.args.after.now c.args.letter.now (counts_of c.args.choices.now (index / 16)))
          c.loop-index.left c.loop-index.count at room (and_from _ _ here may) c.loop-index.invariant.kept;
      small = rw longer (All-push (λ index. index < 29120) (take c.loop-index.count c.loop-index.left) at c.loop-index.invariant.small small);
    }
