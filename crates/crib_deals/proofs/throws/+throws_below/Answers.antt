use Rattle.std.proofs.Common.{◌≡◌, ◌<◌, ℕ, Bool, List, [], ◌∷◌, length, refl, sym, ap, ◌∙◌, arith}
use Rattle.crib_deals.specs.Throws.{is_below, passing_throws}
use Rattle.crib_deals.proofs.ThrowLists.{first_and_rest}
use Rattle.crib_deals.proofs.WeighedSums.{zeros}
use Rattle.crib_deals.proofs.throws.+throws_below.Goals as goal

none_of : (test : List ℕ → Bool) (cards : List ℕ) → length cards < 1 → passing_throws test cards ≡ 0
none_of test [] none = refl
none_of test (card ∷ cards) none = absurd (omega (arith, none))

pub returns-in-empty-clause-value : goal.returns-in-empty-clause-value
returns-in-empty-clause-value t c = λ limit few.
    zeros 31 limit ∙ sym (none_of (is_below c.args.points.now limit) c.args.cards.now c.in-empty.len_below)

pub returns-in-empty-clause-few : goal.returns-in-empty-clause-few
returns-in-empty-clause-few t c = λ limit few. let none = zeros 31 limit in omega (arith, none)

pub returns-in-len1-up-clause-value : goal.returns-in-len1-up-clause-value
returns-in-len1-up-clause-value t c = λ limit few.
    let whole = ap (passing_throws (is_below c.args.points.now limit))
    (first_and_rest c.args.cards.now c.first-item.result c.in-len1-up.len_at_least c.first-item.is) in
    omega (arith, whole, c.add_partners.ensures.value limit few, c.throws_below-below.ensures.value limit few)
