use Rattle.std.proofs.Common.{ℕ, List, rules, subst, sym, ◌∙◌, arith}
use Rattle.std.proofs.Math.ListN.{length-set}
use Rattle.crib_beaten.proofs.Choices.{chosen, not_chosen}
use Rattle.crib_beaten.proofs.HoldNumbers.{four_numbered}
use Rattle.crib_bound.specs.Private.Walks.{AreAdded, IsTableAt, ladder_at}
use Rattle.crib_deals.specs.Choices.{ranks_of_number}
use Rattle.crib_deals.specs.Deals.{behind_by}
use Rattle.crib_show.specs.declared.demands.Demand.{Demand}
use Rattle.crib_bound.proofs.OpenDeals.{all_listed, next_listed, none_listed, fifteen_rungs, skip_listed}
use Rattle.crib_bound.proofs.weights.Choices.of.Goals as goal

pub loop-number-init : goal.loop-number-init
loop-number-init g c = record {
  counted = search rules;
  weighed = search rules;
  are = λ n less. absurd (omega (arith, less));
  below = none_listed c.requires 29120;
  tables = λ index. subst (IsTableAt c.args.problem.now index) (sym (c.in_ok-tables.ensures index)) tt;
}

pub loop-number-preserved-then-not-are_in_order : goal.loop-number-preserved-then-not-are_in_order
loop-number-preserved-then-not-are_in_order g c =
    let not_so = rw c.ranks_at-ranks.ensures at (sym c.are_in_order.ensures ∙ c.if-not-are_in_order.true) in
    record {
      counted = c.loop-number.invariant.counted;
      weighed = c.loop-number.invariant.weighed;
      are = not_chosen c.loop-number.number c.loop-number.counts c.loop-number.invariant.are not_so;
      below = skip_listed c.requires (omega arith) not_so c.loop-number.invariant.below;
      tables = c.loop-number.invariant.tables;
    }

pub choice_index-index-requires : goal.choice_index-index-requires
choice_index-index-requires g c =
    rw (c.count_ranks-counted.ensures.value, c.ranks_at-ranks.ensures) (four_numbered c.loop-number.number (omega arith))

pub add_deals-requires-clause-index : goal.add_deals-requires-clause-index
add_deals-requires-clause-index g c = rw c.count_ranks-counted.ensures.value at c.choice_index-index.ensures.index

pub add_deals-requires-clause-few : goal.add_deals-requires-clause-few
add_deals-requires-clause-few g c = λ entry. let few = c.loop-number.invariant.below.few entry in omega (arith, few, c.loop-number-test.true)

pub loop-number-preserved : goal.loop-number-preserved
loop-number-preserved g c = record {
  counted = length-set _ _ _ ∙ c.loop-number.invariant.counted;
  weighed = search rules;
  are = rw (c.choice_index-index.ensures.index, c.count_ranks-counted.ensures.value, c.ranks_at-ranks.ensures)
      (chosen c.loop-number.number c.loop-number.counts c.loop-number.invariant.are (omega arith) c.loop-number.invariant.counted);
  below =
      let place = rw (c.count_ranks-counted.ensures.value, c.ranks_at-ranks.ensures) at c.choice_index-index.ensures.index in
      let added = rw (c.of-deals.ensures, c.ranks_at-ranks.ensures) at c.add_deals.ensures.added in
      next_listed c.requires (omega arith)
      (subst (λ (n : ℕ). AreAdded (behind_by c.args.problem.now (ranks_of_number c.loop-number.number)) (ladder_at c.ladders_if-ladders.result n)
      c.loop-number.weights c.add_deals.new.weights) place
      (subst (λ (ladder : List Demand). AreAdded (behind_by c.args.problem.now (ranks_of_number c.loop-number.number)) ladder c.loop-number.weights
      c.add_deals.new.weights) (fifteen_rungs c.ladders_if-ladders.result c.choice_index-index.result c.add_deals.ensures.long) added))
      c.loop-number.invariant.below;
  tables = rw c.of-deals.ensures at (c.add_deals.ensures.tables (rw c.of-deals.ensures c.loop-number.invariant.tables));
}

pub returns : goal.returns
returns g c =
    all_listed c.requires c.loop-number.counts (omega (arith, c.loop-number.auto.number-end, c.loop-number-test.false)) c.loop-number.invariant.are
    c.loop-number.invariant.below c.loop-number.invariant.tables
