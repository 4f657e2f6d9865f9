use Rattle.std.proofs.Common.{◌≡◌, ℕ, Bool, not, [], ◌∷◌, None, refl, sym, ap, ◌∙◌}
use Rattle.std.proofs.lemmas.Bool.{cond-true, cond-false}
use Rattle.crib_show.specs.Demands.{is_met}
use Rattle.crib_show.specs.declared.demands.Demand.{Demand}
use Rattle.crib_show.specs.Private.Listing.{any_card, first_pick, try_throw}
use Rattle.crib_cards.proofs.LowestCard.{lowest_split, lowest_none, rest_smaller}
use Rattle.crib_show.proofs.FirstPicks.{pick_none, pick_found, pick_passed}
use Rattle.crib_show.proofs.worst.listing.Listing.first_throw.Goals as goal

pub loop-second-smaller : goal.loop-second-smaller
loop-second-smaller c = rest_smaller _ _ _ c.lowest-in-loop-second.ensures.set
    (sym c.in-Some-lowest.is ∙ c.lowest-in-loop-second.ensures.first) c.without-seconds.ensures

pub loop-first-smaller : goal.loop-first-smaller
loop-first-smaller c = rest_smaller _ _ _ c.lowest.ensures.set (sym c.in-Some.is ∙ c.lowest.ensures.first) c.without-firsts.ensures

-- whether a deal misses the demand, from what was asked
missed : (demand : Demand) {met : Bool} {hand crib h k : ℕ} → met ≡ is_met demand h k → h ≡ hand → k ≡ crib → not (is_met demand hand crib) ≡ not met
missed demand is hand crib = sym (ap not (is ∙ (λ i. is_met demand (hand i) (crib i))))

pub returns-then-not-is_met : goal.returns-then-not-is_met
unfolding first_pick
returns-then-not-is_met c =
    let gives = try_throw c.args.self.now.worst.now c.args.self.now.sought.demand c.args.hold in
    let split = lowest_split _ _ _ c.lowest.ensures.set (sym c.in-Some.is ∙ c.lowest.ensures.first) c.without-firsts.ensures in
    let split_again = lowest_split _ _ _ c.lowest-in-loop-second.ensures.set (sym c.in-Some-lowest.is ∙ c.lowest-in-loop-second.ensures.first)
    c.without-seconds.ensures in
    sym (pick_found gives any_card [] 1 c.loop-first.firsts c.without-firsts.result c.in-Some.first _ split refl
    (sym c.loop-second.invariant
    ∙ pick_found gives any_card (c.in-Some.first ∷ []) 0 c.loop-second.seconds c.without-seconds.result c.in-Some-lowest.second _ split_again refl
    (cond-true _ _ None (missed c.args.self.now.sought.demand c.is_met.ensures c.requires c.crib_of_throw-crib.ensures.value ∙ ap not c.if-not-is_met.true))))
    ∙ c.loop-first.invariant

pub loop-second-preserved : goal.loop-second-preserved
unfolding first_pick
loop-second-preserved c =
    sym (pick_passed (try_throw c.args.self.now.worst.now c.args.self.now.sought.demand c.args.hold) any_card (c.in-Some.first ∷ []) 0 _ _ _
    (lowest_split _ _ _ c.lowest-in-loop-second.ensures.set (sym c.in-Some-lowest.is ∙ c.lowest-in-loop-second.ensures.first) c.without-seconds.ensures)
    (cond-false _ _ None (missed c.args.self.now.sought.demand c.is_met.ensures c.requires c.crib_of_throw-crib.ensures.value ∙ ap not c.if-not-is_met.false)))
    ∙ c.loop-second.invariant

pub loop-first-preserved : goal.loop-first-preserved
loop-first-preserved c =
    let gives = try_throw c.args.self.now.worst.now c.args.self.now.sought.demand c.args.hold in
    sym (pick_passed gives any_card [] 1 _ _ _
    (lowest_split _ _ _ c.lowest.ensures.set (sym c.in-Some.is ∙ c.lowest.ensures.first) c.without-firsts.ensures)
    (sym c.loop-second.invariant ∙ pick_none gives any_card (c.in-Some.first ∷ []) 0 c.loop-second.seconds
    (lowest_none c.loop-second.seconds (sym c.in_default-lowest.is ∙ c.lowest-in-loop-second.ensures.first))))
    ∙ c.loop-first.invariant

pub returns : goal.returns
returns c =
    sym (pick_none (try_throw c.args.self.now.worst.now c.args.self.now.sought.demand c.args.hold) any_card [] 1 c.loop-first.firsts
    (lowest_none c.loop-first.firsts (sym c.in_default.is ∙ c.lowest.ensures.first)))
    ∙ c.loop-first.invariant
