use Rattle.std.proofs.Common.{◌≡◌, ◌⊎◌, inl, inr, ℕ, ◌+◌, ◌≤◌, min, Bool, false, cond, sym, subst, ◌∙◌, arith}
use Rattle.std.proofs.lemmas.Bool.Decides.{nat_tests}
use Rattle.crib_show.specs.Private.Extremes.{has_room, least_suits, plain_crib}
use Rattle.crib_show.proofs.deals.WorstShow.least_with_pair.Goals as goal
use Rattle.crib_show.proofs.deals.WorstShow.least_with_pair.Goals.{then-points-least-via-then-points-least}
use Rattle.crib_show.proofs.deals.WorstShow.least_with_pair.Goals.{then-points-least-via-else-points-least+then-not-has_room}

-- the crib has no less, if the ranks alone have `least` points or more or they may not be thrown
no_less : (least plain suits : ℕ) (room : Bool) → least ≤ 255 → (least ≤ plain) ⊎ (room ≡ false) → least ≡ min least (cond room (plain + suits) 255)
no_less least plain suits room fits much = grind (arith, nat_tests)

pub returns-then-points-least : goal.returns-then-points-least
returns-then-points-least c =
    let worst = c.args.self.now in
    let plain = plain_crib worst c.args.first c.args.second in
    let suits = least_suits worst c.args.first c.args.second in
    let room = has_room worst c.args.first c.args.second in
    let fits : c.args.least ≤ 255 = let fits = c.ranges.least.fits in omega (arith, fits) in
    no_less c.args.least plain suits room fits (elim c.then-points-least.branch [
      | then-points-least-via-then-points-least w ↦
          inl (subst (λ k. c.args.least ≤ k)
          (c.of-points.ensures ∙ c.requires.plain.each c.args.first c.args.second c.requires.ranks.0 c.requires.ranks.1) w.if-points-least.true)
      | then-points-least-via-else-points-least+then-not-has_room w ↦ inr (sym w.has_room.ensures ∙ w.if-not-has_room.true)
    ])
