use Rattle.std.proofs.Common.{ℕ, ◌+◌, List, sym, ap, ◌∙◌, arith}
use Rattle.crib_show.specs.Private.Extremes.{crib_suit_points, plain_crib}
use Rattle.crib_show.specs.Show.{crib_flush, jack_points}
use Rattle.crib_show.proofs.Throws.{crib_of_ranks}
use Rattle.crib_show.proofs.deals.WorstShow.crib_of_throw.Goals as goal

pub returns-clause-value : goal.returns-clause-value
returns-clause-value c =
    let worst = c.args.self.now in
    let starter = worst.starter in
    let first = c.rank.ensures in
    let second = c.rank-2.ensures in
    let crib = crib_of_ranks worst c.args.first c.args.second
    ∙ (λ i. plain_crib worst (sym first.value i) (sym second.value i) + crib_suit_points worst c.args.first c.args.second) in
    omega (
      arith,
      crib,
      c.of.ensures ∙ c.requires.each c.rank.result c.rank-2.result first.range second.range,
      c.crib_flush.ensures.value ∙ ap (λ (crib : List ℕ). crib_flush crib starter) c.crib_with-crib.ensures,
      c.jack_points.ensures.value ∙ ap (λ (crib : List ℕ). jack_points crib starter) c.crib_with-crib.ensures,
    )
