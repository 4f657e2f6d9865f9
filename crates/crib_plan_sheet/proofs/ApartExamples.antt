-- Worked examples of nodes that have paragraphs of their own, each for its own reason.
use Rattle.std.proofs.Common.{arith, ◌≡◌, refl, Bool, true, false, ℕ, zero, suc, List, [], ◌∷◌, ◌++◌, inl, inr, replicate}
use Rattle.std.proofs.lemmas.Bool.{both_ways}
use Rattle.crib_plan.specs.declared.plan.Next.TheVariants.{End, To}
use Rattle.crib_plan.specs.declared.plan.Node.{Node}
use Rattle.crib_plan.specs.declared.plan.Node.TheVariants.{Play, See}
use Rattle.crib_plan_sheet.specs.PlanOutline.{OnlyLargeAreApart}
use Rattle.crib_plan_sheet.proofs.PlanExamples.{three_eights}

-- one node alone is apart
abbrev only : ℕ → ℕ → Bool
only zero zero = true
only zero (suc node) = false
only (suc it) zero = false
only (suc it) (suc node) = only it node

-- five cards in a row behind a first one
abbrev six_cards : List Node
six_cards = Play 4 (To 1) ∷ Play 5 (To 2) ∷ Play 6 (To 3) ∷ Play 7 (To 4) ∷ Play 8 (To 5) ∷ Play 9 End ∷ []

five_cards_are_apart : OnlyLargeAreApart (only 1) six_cards
five_cards_are_apart (suc zero) apart = (omega arith, inl (inl (omega arith)))
five_cards_are_apart zero apart = absurd (both_ways false refl apart)
five_cards_are_apart (suc (suc node)) apart = absurd (both_ways false refl apart)

-- five looks behind a card, each in the line of an ace of the one before
abbrev five_looks : List Node
five_looks =
    Play 4 (To 1) ∷ See (To 2 ∷ replicate 13 End) ∷ See (To 3 ∷ replicate 13 End) ∷ See (To 4 ∷ replicate 13 End) ∷ See (To 5 ∷ replicate 13 End) ∷
    See (To 6 ∷ replicate 13 End) ∷ Play 5 End ∷ []

five_levels_are_apart : OnlyLargeAreApart (only 1) five_looks
five_levels_are_apart (suc zero) apart = (omega arith, inl (inr (inl (omega arith))))
five_levels_are_apart zero apart = absurd (both_ways false refl apart)
five_levels_are_apart (suc (suc node)) apart = absurd (both_ways false refl apart)

-- a look to which the first look leads after a go, and after an ace behind a card
abbrev look_led_to_twice : List Node
look_led_to_twice = See (To 1 ∷ replicate 12 End ++ To 2 ∷ []) ∷ Play 4 (To 2) ∷ See (To 3 ∷ replicate 13 End) ∷ Play 5 End ∷ []

led_to_twice_is_apart : OnlyLargeAreApart (only 2) look_led_to_twice
led_to_twice_is_apart (suc (suc zero)) apart = (omega arith, inl (inr (inr (omega arith, omega arith))))
led_to_twice_is_apart zero apart = absurd (both_ways false refl apart)
led_to_twice_is_apart (suc zero) apart = absurd (both_ways false refl apart)
led_to_twice_is_apart (suc (suc (suc node))) apart = absurd (both_ways false refl apart)

-- the second look of a plan of 21 looks
second_look_is_apart : OnlyLargeAreApart (only 3) (three_eights ++ replicate 19 (See []))
second_look_is_apart (suc (suc (suc zero))) apart = (omega arith, inr refl)
second_look_is_apart zero apart = absurd (both_ways false refl apart)
second_look_is_apart (suc zero) apart = absurd (both_ways false refl apart)
second_look_is_apart (suc (suc zero)) apart = absurd (both_ways false refl apart)
second_look_is_apart (suc (suc (suc (suc node)))) apart = absurd (both_ways false refl apart)
