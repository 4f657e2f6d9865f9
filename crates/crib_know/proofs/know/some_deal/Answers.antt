use Rattle.std.proofs.Common.{arith}
use Rattle.crib_know.proofs.OwnCalls.{rest_two, first_is}
use Rattle.crib_know.proofs.OwnCalls.{moved, know_four}
use Rattle.crib_know.proofs.know.some_deal.Goals as goal

pub first_hold-hold-requires : goal.first_hold-hold-requires
first_hold-hold-requires c =
    let known = c.know.invariant in
    record { four = know_four _ known.problem known.history known.knows }

pub lowest_of-requires : goal.lowest_of-requires
lowest_of-requires c =
    let known = c.know.invariant in
    let two = rest_two _ known.problem known.history known.knows c.first_hold-hold.result c.first_hold-hold.ensures c.without_all.result
    c.without_all.ensures in
    omega (arith, two)

pub returns : goal.returns
returns c = λ problem history knows.
    first_is _ problem history (moved _ c.args.know.now problem history c.know.view_is knows) c.first_hold-hold.result c.first_hold-hold.ensures
    c.without_all.result c.without_all.ensures c.lowest_of.result c.lowest_of.ensures
