use Rattle.std.proofs.Common.{◌∙◌, ap, arith, sum}
use Rattle.crib_show.proofs.RunLemmas.{count-le}
use Rattle.crib_show.proofs.show.points.pair_and_run_points.Goals as goal

pub pair_points-requires-clause-each : goal.pair_points-requires-clause-each
pair_points-requires-clause-each c =
    let five = ap sum c.as_slice-counts.ensures ∙ c.counts_of_five-counts.ensures.number in
    count-le c.as_slice-counts.result.now (omega (arith, five))
