-- If the hold decides whether a deal has a property, the number of deals that have it is a multiple of 820: each hold
-- comes with all throws of two of the cards that it leaves.
use Rattle.std.proofs.Common.{◌≡◌, ℕ, zero, suc, ◌+◌, ◌-◌, ◌*◌, ◌≤◌, Bool, true, false, eqb, List, refl, sym, subst, arith}
use Rattle.std.specs.Cmp.Lexicographic.{pointwise, bytes_decides}
use Rattle.std.proofs.lemmas.Bool.Decides.{nat_tests}
use Rattle.crib_cards.specs.Deals.{is_in_pack_order}
use Rattle.crib_cards.specs.Order.{are_rising}
use Rattle.crib_cards.specs.Sets.{set_without_all}
use Rattle.crib_cards.specs.declared.sides.Dealt.{Dealt}
use Rattle.crib_cards.proofs.SetFacts.{are_rising-set_where}
use Rattle.crib_problem.specs.Setup.{Setup, IsSetup, IsDealOf, unseen_of}
use Rattle.crib_deals.specs.Exact.{AreExactly}
use Rattle.crib_deals.specs.Throws.{passing_throws}
use Rattle.crib_deals.proofs.ExactCounts.{exactly_rest, exactly_same, exactly_some}
use Rattle.crib_deals.proofs.OpenDeals.{deal_from, free_from, is_held, left_forty_one}
use Rattle.crib_deals.proofs.ThrowLists.{IsThrowOf, all_throws, every_throw}

-- a deal with a hold and a throw
abbrev pub dealt_by : List ℕ → List ℕ → Dealt
dealt_by hold throw = record { hold = hold; throw = throw }

-- deals of a problem have a property, and so has each further deal with the hold of one of them
pub record IsOfHold (problem : Setup) (Has : Dealt → Type 0) : Type 0 where
  pub deal : (dealt : Dealt) → Has dealt → IsDealOf problem dealt
  pub other : (dealt : Dealt) (throw : List ℕ) → Has dealt → IsDealOf problem (dealt_by dealt.hold throw) → Has (dealt_by dealt.hold throw)

abbrev has_hold : List ℕ → Dealt → Bool
has_hold hold dealt = pointwise eqb dealt.hold hold

module _ {problem : Setup} (setup : IsSetup problem) where
  module _ {Has : Dealt → Type 0} (of : IsOfHold problem Has) (one : Dealt) (order : is_in_pack_order one ≡ true) (has : Has one) where
    abbrev left : List ℕ
    left = set_without_all (unseen_of problem) one.hold

    -- those with the hold of one of them
    with_hold : AreExactly (λ dealt. Has dealt × (has_hold one.hold dealt ≡ true)) 820
    with_hold =
        let free = free_from setup one order (of.deal one has) in
        let rising : are_rising one.hold ≡ true = grind (arith, nat_tests, order) in
        let each : AreExactly (λ dealt. Has dealt × (has_hold one.hold dealt ≡ true)) (passing_throws (λ throw. true) left) =
        exactly_same
        (λ dealt dealt_order is. (
          subst (λ (hold : List ℕ). Has (dealt_by hold dealt.throw)) (sym is.0) (of.other one dealt.throw has
              (deal_from setup (dealt_by one.hold dealt.throw) (rw is.0 at dealt_order) (free.0, free.1, is.1))),
          (bytes_decides dealt.hold one.hold).1 is.0,
        ))
        (λ dealt dealt_order is.
        let same = (bytes_decides dealt.hold one.hold).0 is.1 in (
          same,
          subst (λ (hold : List ℕ). IsThrowOf (set_without_all (unseen_of problem) hold) dealt.throw) same
              (free_from setup dealt dealt_order (of.deal dealt is.0)).2,
          refl,
        ))
        (all_throws one.hold rising (λ throw. true) left (are_rising-set_where _)) in
        rw (every_throw left (left_forty_one setup one.hold (is_held setup one.hold free.0 free.1))) at each

    -- the others
    without_hold : IsOfHold problem (λ dealt. Has dealt × (has_hold one.hold dealt ≡ false))
    without_hold = record { deal = λ dealt is. of.deal dealt is.0; other = λ dealt throw is deal. (of.other dealt throw is.0 deal, is.1) }

  multiple_within : (most : ℕ) (Has : Dealt → Type 0) (count : ℕ) → count ≤ most → IsOfHold problem Has → AreExactly Has count →
      (times : ℕ) × (count ≡ times * 820)
  multiple_within most Has zero few of exact = (0, refl)
  multiple_within zero Has (suc count) few of exact = absurd (omega (arith, few))
  multiple_within (suc most) Has (suc count) few of exact =
      let one = exactly_some (omega arith) exact in
      let rest = exactly_rest {Rest = λ dealt. Has dealt × (has_hold one.0.hold dealt ≡ false)} (has_hold one.0.hold)
      (λ dealt order. (λ is. is, λ is. is)) (λ dealt order. (λ is. is, λ is. is)) exact (with_hold of one.0 one.1 one.2) in
      let enough = rest.0 in
      let more = multiple_within most _ (suc count - 820) (omega (arith, few)) (without_hold of one.0 one.1 one.2) rest.1 in
      (more.0 + 1, let times = more.1 in omega (arith, enough, times))

  pub multiple_of_820 : {Has : Dealt → Type 0} {count : ℕ} → IsOfHold problem Has → AreExactly Has count → (times : ℕ) × (count ≡ times * 820)
  multiple_of_820 {Has} {count} of exact = multiple_within count Has count (omega arith) of exact
