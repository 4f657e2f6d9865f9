use Rattle.std.proofs.Common.{◌≡◌, length, arith, rules}
use Rattle.crib_bound.proofs.cases.bound_in_cases.Goals as goal

pub returns : goal.returns
returns g c plan count exact = c.in_ok-bound.ensures.bounds plan count (rw c.new.ensures.items (λ one h. absurd h)) exact

pub least_in-requires : goal.least_in-requires
least_in-requires g c =
    let long : length c.in_ok-vec.field-0.items ≡ 2446080 = search (rules, arith) in
    record { begun = c.start.ensures; counted = c.in_ok-of.ensures; long = long }
