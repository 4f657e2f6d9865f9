use Rattle.std.proofs.Common.{◌≡◌, ◌≤◌, ℕ, [], ◌∷◌, set, get_or, slice_index, ap, subst, ◌∙◌, inl, inr, arith}
use Rattle.std.proofs.Math.ListN.{length-set}
use Rattle.std.proofs.lemmas.Bool.{cases_lt}
use Rattle.std.proofs.lemmas.List.{get_or-set_other, get_or-set_same}
use Rattle.crib_cards.specs.Cards.{rank_of}
use Rattle.crib_show.specs.Show.{plain_of_ranks}
use Rattle.crib_deals.specs.Private.Sums.{left_below, of_suits}
use Rattle.crib_deals.proofs.ListedHolds.{open_listed}
use Rattle.crib_deals.proofs.TableRows.{row_below, row_few}
use Rattle.crib_deals.proofs.table.Table.of.Goals as goal

pub below-requires-clause-sums : goal.below-requires-clause-sums
below-requires-clause-sums c = (
  of_suits c.starter-starter.result c.loop-suits.suits,
  c.args.holds.now,
  c.sums_of-sums.ensures.sums c.loop-suits.suits c.loop-suits-test.true,
  rw c.requires.cribs.1.unseen_is c.requires.listed.held,
)

pub loop-suits-preserved : goal.loop-suits-preserved
loop-suits-preserved c = record {
  long = length-set c.loop-suits.below c.loop-suits.suits _ ∙ c.loop-suits.invariant.long;
  rows = λ suits limit less few. elim (cases_lt suits c.loop-suits.suits) [
    | inl before ↦ ap (λ row. slice_index row limit) (get_or-set_other c.loop-suits.below c.loop-suits.suits suits c.below.result [] (λ e. omega (
      arith,
      e,
      before,
    )))
        ∙ c.loop-suits.invariant.rows suits limit before few
    | inr least ↦ let same : c.loop-suits.suits ≡ suits = omega (arith, less, least) in
        subst (λ n. slice_index (get_or (set c.loop-suits.below c.loop-suits.suits c.below.result) n []) limit ≡ left_below c.args.cribs.now
        (of_suits c.args.problem.now.starter n) limit c.args.holds.now) same
        (ap (λ row. slice_index row limit) (get_or-set_same c.loop-suits.below c.loop-suits.suits c.below.result [] (omega (
          arith,
          c.loop-suits-test.true,
          c.loop-suits.invariant.long,
        )))
        ∙ rw (← c.starter-starter.ensures) (c.below.ensures (of_suits c.starter-starter.result c.loop-suits.suits) c.args.holds.now
        (c.sums_of-sums.ensures.sums c.loop-suits.suits c.loop-suits-test.true) (rw c.requires.cribs.1.unseen_is c.requires.listed.held) limit few))
  ];
}

pub invariant_of-result : goal.invariant_of-result
invariant_of-result c =
    let of = c.requires.cribs.1 in
    let plain : c.plain_points.result ≡ plain_of_ranks (rank_of c.args.problem.now.starter ∷ c.args.ranks.now) =
    rw (← c.starter-starter.ensures) c.plain_points.ensures.value in record {
      are_open = open_listed of.knows.setup c.requires.listed;
      few = let few = c.requires.few in omega (arith, few);
      plain_is = plain;
      small = c.plain_points.ensures.range;
      rows = λ suits less.
          let count = λ (limit : ℕ) (few : limit ≤ 30).
          c.loop-suits.invariant.rows suits limit (omega (arith, less, c.loop-suits-test.false)) few in record {
            setup = of.knows.setup;
            hand_is = omega (arith, plain);
            below = λ limit few. row_below of c.requires.listed suits limit _ (count limit few);
            few = row_few of c.requires.listed suits 30 _ c.requires.few (row_below of c.requires.listed suits 30 _ (count 30 (omega arith)));
          };
    }
