use Rattle.std.proofs.Common.{◌≡◌, ◌+◌, ◌-◌, ◌≤◌, get_or, sym, ◌∙◌, arith}
use Rattle.std.proofs.Math.ListN.{length-set}
use Rattle.std.proofs.lemmas.List.Edits.{fill_by_more}
use Rattle.crib_deals.specs.Private.Sums.{left_below}
use Rattle.crib_deals.proofs.WeighedSums.{cell_few, left_sums, none_where, one_more, part_few, zeros}
use Rattle.crib_deals.proofs.sums.Sums.below.Goals as goal
use Rattle.crib_deals.proofs.sums.Sums.below.Goals.{then-limit-lt30, else-limit-lt30}

pub returns-then-self-eq0 : goal.returns-then-self-eq0
returns-then-self-eq0 c = λ kind holds sums held limit few. zeros 31 limit ∙ sym (none_where kind _ holds (sym sums.count ∙ c.if-self-eq0.true))

pub overflow_add-below : goal.overflow_add-below
overflow_add-below c =
    let held = c.loop-limit.invariant.held (omega (arith, c.loop-limit-test.true)) in
    omega (arith, c.times.ensures.few, held, part_few 0 c.loop-limit.limit c.args.self.now.pairs, c.requires.small.pairs, c.requires.small.count)

pub overflow_sub-below : goal.overflow_sub-below
overflow_sub-below c =
    let some = c.requires.sums in
    let few : c.loop-limit.limit ≤ 30 = omega (arith, c.loop-limit-test.true) in
    let sum = left_sums c.args.cribs.now c.args.ranks.now c.loop-limit.limit some.0 some.1 c.args.self.now c.requires.counted few some.3 some.2 in
    omega (arith, sum, c.throws_with-with.ensures c.loop-limit.limit few, c.times.ensures.value, c.loop-limit.invariant.held few)

pub overflow_add-held : goal.overflow_add-held
overflow_add-held c =
    let held = c.loop-limit.invariant.held (omega (arith, c.loop-limit-test.true)) in
    omega (
      arith,
      held,
      part_few 0 c.loop-limit.limit c.args.self.now.pairs,
      cell_few 0 c.args.self.now.pairs c.loop-limit.limit,
      c.requires.small.pairs,
      c.requires.small.count,
    )

pub loop-limit-preserved : goal.loop-limit-preserved
loop-limit-preserved c =
    let few : c.loop-limit.limit ≤ 30 = omega (arith, c.loop-limit-test.true) in record {
      long = length-set c.loop-limit.below c.loop-limit.limit _ ∙ c.loop-limit.invariant.long;
      held = λ more. elim c.if-limit-lt30.branch [
        | then-limit-lt30 w ↦ omega (arith, w.held-is, c.loop-limit.invariant.held few, one_more (λ i. 1) c.args.self.now.pairs c.loop-limit.limit)
        | else-limit-lt30 w ↦ absurd (omega (arith, more, w.if-limit-lt30.false))
      ];
      each = λ kind holds sums held.
          let sum = left_sums c.args.cribs.now c.args.ranks.now c.loop-limit.limit kind holds c.args.self.now c.requires.counted few held sums in
          let value : c.times.result + c.loop-limit.held - get_or c.throws_with-with.result c.loop-limit.limit 0
          ≡ left_below c.args.cribs.now kind c.loop-limit.limit holds =
          omega (arith, sum, c.throws_with-with.ensures c.loop-limit.limit few, c.times.ensures.value, c.loop-limit.invariant.held few) in
          rw value (fill_by_more (λ i. left_below c.args.cribs.now kind i holds) c.loop-limit.below c.loop-limit.limit 0
          (omega (arith, few, c.loop-limit.invariant.long)) (c.loop-limit.invariant.each kind holds sums held));
    }

pub returns : goal.returns
returns c = λ kind holds sums held limit few.
    c.loop-limit.invariant.each kind holds sums held limit (omega (arith, few, c.loop-limit-test.false))
