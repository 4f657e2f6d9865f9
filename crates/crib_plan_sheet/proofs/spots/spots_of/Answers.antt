use Rattle.std.proofs.Common.{◌≡◌, ℕ, ◌+◌, ◌-◌, ◌<◌, false, length, replicate, refl, sym, ap, subst, arith, rules, ◌∙◌}
use Rattle.std.proofs.lemmas.List.{length-replicate, length-set}
use Rattle.std.proofs.lemmas.Option.{slice_get_read}
use Rattle.crib_plan_sheet.specs.declared.spots.Spot.{Spot}
use Rattle.crib_plan_sheet.specs.Private.Spots.{AreSized}
use Rattle.crib_plan_sheet.specs.Private.Ways.{ways_or_named, ways_to}
use Rattle.crib_plan_sheet.proofs.PlanSpots.{first_set, first_unknown, low_set, low_unknown, none_sized, sized_later, sized_set}
use Rattle.crib_plan_sheet.proofs.PlanWays.{at_entry}
use Rattle.crib_plan_sheet.proofs.spots.spots_of.Goals as goal

pub loop-number-preserved : goal.loop-number-preserved
loop-number-preserved g c =
    let inv = c.loop-number.invariant in
    let number : ℕ = c.loop-number.number - 1 in
    let nodes = c.args.nodes.now in
    let spots = c.loop-number.spots.items in
    let node = c.index-nodes-number.result in
    let within : number < length nodes = omega (arith, inv.0, c.loop-number-test.true) in
    let among : number < length spots = omega (arith, inv.1, within) in
    let node_is = slice_get_read nodes (length nodes) number node refl within c.index-nodes-number.is in
    let ways_are : c.index.result.now ≡ ways_to nodes number =
    c.index.ensures
    ∙ sym (at_entry c.in_ok-ways.ways.items number c.index.result.now (omega (arith, c.in_ok-ways.ensures.length, within)))
    ∙ c.in_ok-ways.ensures.counted.counted number within
    in
    let named = c.args.named.now in
    let ways : c.ways_or_named-ways.result ≡ ways_or_named named number (ways_to nodes number) =
    c.ways_or_named-ways.ensures ∙ ap (ways_or_named named number) ways_are
    in
    let e : c.loop-number.number ≡ number + 1 = omega (arith, c.loop-number-test.true) in
    let old = subst (λ k. AreSized named k nodes spots) e inv.3 in
    let spot = c.spot_of-spot.result in (
      omega (arith, inv.0),
      length-set spots number spot ∙ inv.1,
      low_set spots number spot inv.2 c.spot_of-spot.ensures.low.0 c.spot_of-spot.ensures.low.1,
      sized_set named number nodes spots node spot c.requires.1 among node_is old
          (λ inline. rw (c.as_slice.ensures.value, ways) at (c.spot_of-spot.ensures.whole inline))
          (λ apart. rw (c.as_slice.ensures.value, ways) at (c.spot_of-spot.ensures.broken apart)),
      first_set spots number spot (omega (arith, c.loop-number-test.true)) ∙ inv.4,
    )

pub returns-clause-sized : goal.returns-clause-sized
returns-clause-sized g c =
    sized_later c.args.named.now c.loop-number.number 1 c.args.nodes.now c.loop-number.spots.items (omega arith) c.loop-number.invariant.3

pub loop-number-init : goal.loop-number-init
loop-number-init g c =
    let count : ℕ = length c.args.nodes.now in
    let unknown : Spot = record { is_apart = false; levels = 0; cards = 0 } in
    let same : c.in_ok-spots.spots.items ≡ replicate count unknown = search rules in (
      omega arith,
      rw same (length-replicate count unknown),
      rw same (low_unknown count unknown (omega arith) (omega arith)),
      none_sized c.args.named.now count c.args.nodes.now c.in_ok-spots.spots.items (omega arith),
      rw same (first_unknown count unknown refl),
    )
