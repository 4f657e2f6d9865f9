use Rattle.std.proofs.Common.{false, refl}
use Rattle.std.proofs.lemmas.Bool.{both_ways}
use Rattle.crib_bound.proofs.Keepers.{allowed_more, allowed_one, first_is}
use Rattle.crib_bound.proofs.path.+is_allowed.Goals as goal

pub returns-then-not-lets : goal.returns-then-not-lets
returns-then-not-lets t c =
    let is = first_is c.args.fixed.now c.one-item.result c.in-len1-up.len_at_least c.one-item.is in (
      λ no. absurd (both_ways false refl no),
      λ allowed. absurd (both_ways _ c.if-not-lets.true (c.lets.ensures.1 (allowed_one is allowed))),
    )

pub returns-else-not-lets : goal.returns-else-not-lets
returns-else-not-lets t c =
    let is = first_is c.args.fixed.now c.one-item.result c.in-len1-up.len_at_least c.one-item.is in
    let more = allowed_more {trail = c.args.trail.now.items} {rank = c.args.rank} is (c.lets.ensures.0 c.if-not-lets.false) in
    (λ allowed. more.0 (c.is_allowed.ensures.0 allowed), λ allowed. c.is_allowed.ensures.1 (more.1 allowed))
