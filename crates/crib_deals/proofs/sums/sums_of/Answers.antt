use Rattle.std.proofs.Common.{List, ℕ, ◌<◌, [], get_or, length, refl, sym, subst, ◌∙◌, arith}
use Rattle.std.proofs.lemmas.List.{get_or-replicate, take_all}
use Rattle.std.proofs.Math.ListN.{length-set}
use Rattle.crib_deals.specs.Private.Sums.{AreSmall, AreSums, no_sums, of_suits}
use Rattle.crib_deals.proofs.WeighedSums.{count_few, next_small, next_sums}
use Rattle.crib_deals.proofs.sums.sums_of.Goals as goal

pub loop-hold-init : goal.loop-hold-init
loop-hold-init c = record {
  long = refl;
  sums = λ suits less. subst (AreSums c.args.cribs.now.points (of_suits c.args.starter suits) []) (sym
      (get_or-replicate 7 suits c.new-sums.result no_sums less))
      (c.new-sums.ensures.sums c.args.cribs.now.points (of_suits c.args.starter suits));
  small = λ suits less. subst AreSmall (sym (get_or-replicate 7 suits c.new-sums.result no_sums less)) c.new-sums.ensures.small;
}

pub add-requires-clause-few : goal.add-requires-clause-few
add-requires-clause-few c =
    count_few (of_suits c.args.starter c.suit_points.result) c.args.holds.now c.loop-hold.hold-index c.loop-hold-test.true c.requires.few
    (c.loop-hold.invariant.sums c.suit_points.result (omega (arith, c.suit_points.ensures.range)))

pub loop-hold-preserved : goal.loop-hold-preserved
loop-hold-preserved c =
    let inside : c.suit_points.result < length c.loop-hold.sums = omega (arith, c.suit_points.ensures.range, c.loop-hold.invariant.long) in
    let small : c.suit_points.result < 7 = omega (arith, c.suit_points.ensures.range) in record {
      long = length-set c.loop-hold.sums c.suit_points.result _ ∙ c.loop-hold.invariant.long;
      sums = λ suits less. next_sums c.args.cribs.now.points c.args.starter c.args.holds.now c.loop-hold.hold-index c.hold-item.result c.loop-hold-test.true
          c.hold-item.is c.loop-hold.sums
          c.add.new.self c.suit_points.result inside c.suit_points.ensures.value c.add.ensures.count c.add.ensures.cards c.add.ensures.pairs suits
          (c.loop-hold.invariant.sums suits less);
      small = λ suits less. next_small c.args.cribs.now.points c.args.starter c.args.holds.now c.loop-hold.hold-index c.hold-item.result c.loop-hold-test.true
          c.hold-item.is c.loop-hold.sums
          c.add.new.self c.suit_points.result inside c.suit_points.ensures.value c.add.ensures.count c.add.ensures.cards c.add.ensures.pairs suits
          (count_few (of_suits c.args.starter c.suit_points.result) c.args.holds.now c.loop-hold.hold-index c.loop-hold-test.true c.requires.few
          (c.loop-hold.invariant.sums c.suit_points.result small))
          (c.loop-hold.invariant.small c.suit_points.result small) (c.loop-hold.invariant.small suits less);
    }

pub returns-clause-sums : goal.returns-clause-sums
returns-clause-sums c = λ suits less.
    subst (λ (holds : List (List ℕ)). AreSums c.args.cribs.now.points (of_suits c.args.starter suits) holds (get_or c.loop-hold.sums suits no_sums))
    (take_all c.loop-hold.hold-index c.args.holds.now c.loop-hold-test.false) (c.loop-hold.invariant.sums suits less)
