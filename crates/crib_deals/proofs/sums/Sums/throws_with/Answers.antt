use Rattle.std.proofs.Common.{◌≡◌, ◌*◌, ℕ, get_or, ap, arith}
use Rattle.crib_deals.specs.Throws.{is_below, partners}
use Rattle.crib_deals.specs.Private.Sums.{partners_at}
use Rattle.crib_deals.proofs.WeighedSums.{cell_few, one_more, zeros}
use Rattle.crib_deals.proofs.sums.Sums.throws_with.Goals as goal
use Rattle.crib_deals.proofs.sums.Sums.throws_with.Goals.{then-count-gt0, else-count-gt0}

pub loop-index-init : goal.loop-index-init
loop-index-init c = record { each = λ limit few. zeros 31 limit; few = λ limit few. let none = zeros 31 limit in omega (arith, none) }

pub add_times-requires-clause-count : goal.add_times-requires-clause-count
add_times-requires-clause-count c = omega (arith, cell_few 0 c.args.self.now.cards c.loop-index.index, c.requires.small.cards, c.requires.small.count)

pub loop-index-preserved : goal.loop-index-preserved
loop-index-preserved c = elim c.if-count-gt0.branch [
  | then-count-gt0 w ↦ record {
    each = λ limit few. rw w.with-is
        (let card = ap (λ (card : ℕ). get_or c.args.self.now.cards c.loop-index.index 0 * partners (is_below c.args.cribs.now.points limit) card
        c.args.cribs.now.unseen)
        w.card_in.ensures.value in
        omega (
          arith,
          w.add_times.ensures.sums limit few,
          c.loop-index.invariant.each limit few,
          card,
          one_more (partners_at c.args.cribs.now c.args.ranks.now limit) c.args.self.now.cards c.loop-index.index,
        ));
    few = λ limit few. rw w.with-is (omega (arith, w.add_times.ensures.few limit few, c.loop-index.invariant.few limit few));
  }
  | else-count-gt0 w ↦
      let none : get_or c.args.self.now.cards c.loop-index.index 0 ≡ 0 = omega (arith, w.if-count-gt0.false) in record {
        each = λ limit few. rw w.with-is
            (let more = rw none at (one_more (partners_at c.args.cribs.now c.args.ranks.now limit) c.args.self.now.cards c.loop-index.index) in
            omega (arith, more, c.loop-index.invariant.each limit few));
        few = λ limit few. rw w.with-is (omega (arith, c.loop-index.invariant.few limit few));
      }
]
