-- Exact counts of deals by a number: that of the suits of their hold, of their ranks, or of points.
use Rattle.std.proofs.Common.{◌≡◌, ℕ, ◌+◌, ◌<◌, ap, ◌∙◌, inl, inr, arith}
use Rattle.std.proofs.lemmas.Bool.{cases_lt}
use Rattle.crib_cards.specs.declared.sides.Dealt.{Dealt}
use Rattle.crib_deals.specs.Exact.{AreExactly}
use Rattle.crib_deals.proofs.ExactCounts.{exactly_either, exactly_none, exactly_same}

-- a list of each deal of a property has a number below another, and the number says which list it is
pub record AreNumbered {X : Type 0} (Has : Dealt → Type 0) (list : Dealt → X) (number : X → ℕ) (at : ℕ → X) (most : ℕ) : Type 0 where
  pub few : (dealt : Dealt) → Has dealt → number (list dealt) < most
  pub are : (dealt : Dealt) → Has dealt → list dealt ≡ at (number (list dealt))
  pub back : (n : ℕ) → n < most → number (at n) ≡ n

module _ {X : Type 0} {Has : Dealt → Type 0} {list : Dealt → X} {number : X → ℕ} {at : ℕ → X} {most : ℕ} (all : AreNumbered Has list number at most) where
  -- a deal of the property with a smaller number
  abbrev pub IsBelow : ℕ → Dealt → Type 0
  IsBelow n dealt = Has dealt × (number (list dealt) < n)

  pub none_below : AreExactly (IsBelow 0) 0
  none_below = exactly_none (λ dealt order is. let less = is.1 in absurd (omega (arith, less)))

  pub all_below : {count : ℕ} → AreExactly (IsBelow most) count → AreExactly Has count
  all_below = exactly_same (λ dealt order is. is.0) (λ dealt order has. (has, all.few dealt has))

  pub next_below : {n count more : ℕ} → n < most → AreExactly (IsBelow n) count → AreExactly (λ dealt. Has dealt × (list dealt ≡ at n)) more →
      AreExactly (IsBelow (n + 1)) (count + more)
  next_below {n} small =
      exactly_either (λ dealt is. elim (cases_lt (number (list dealt)) n) [
        | inl less ↦ inl (is.0, less)
        | inr least ↦ let less = is.1 in inr (is.0, all.are dealt is.0 ∙ ap at (omega (arith, less, least)))
      ])
      (λ dealt is. (is.0, let less = is.1 in omega (arith, less))) (λ dealt is. (is.0, let here = here dealt is.1 in omega (arith, here)))
      (λ dealt below is. let less = below.1 in let here = here dealt is.1 in absurd (omega (arith, less, here)))
    where
      here : (dealt : Dealt) → list dealt ≡ at n → number (list dealt) ≡ n
      here dealt is = ap number is ∙ all.back n small
