-- Worked examples of what the show demands of the opponent's hand and the crib.
use Rattle.std.proofs.Common.{◌≡◌, ℕ, ◌+◌, Bool, true, false, [], ◌∷◌, ◌++◌, ◌≤◌, Option, Some, None, refl, arith}
use Rattle.std.proofs.lemmas.Bool.{both_ways}
use Rattle.std.proofs.lemmas.Bool.Decides.{nat_tests}
use Rattle.std.specs.Prelude.{IsFalse, map}
use Rattle.crib_cards.specs.Sets.{set_where}
use Rattle.crib_cards.specs.declared.sides.Dealt.{Dealt}
use Rattle.crib_cards.specs.declared.sides.Scores.{Scores}
use Rattle.crib_cards.specs.declared.sides.Side.{Side}
use Rattle.crib_show.specs.Demands.{IsFirstMissing, IsFirstMissingOrNone, IsMetByAll, IsMetByNone, IsShowAt, is_met, is_met_by}
use Rattle.crib_show.specs.Worst.{AgreesInShow}
use Rattle.crib_show.proofs.ExampleShows.{aces_and_fives, four_aces}
use Rattle.crib_show.specs.Show.{hand_points, crib_points}
use Rattle.crib_show.specs.declared.deals.Full.{Full}
use Rattle.crib_show.specs.declared.demands.Demand.{Demand}

-- at most 12 points of the hand, at most 20 with the crib, and at least 2 of the crib
abbrev pub of_three : Demand
of_three = record { hand = 12; total = 20; crib = 2 }

-- a hand that is too good, both together too good, and a crib that is too poor
points_of_three : map (λ (points : ℕ × ℕ). is_met of_three points.0 points.1) ((12, 8) ∷ (13, 2) ∷ (12, 9) ∷ (10, 10) ∷ (0, 2) ∷ (0, 1) ∷ [])
    ≡ true ∷ false ∷ false ∷ true ∷ true ∷ false ∷ []
points_of_three = refl

-- each hand and crib meet the demand of nothing, and none meet one of more for the crib than in all
of_nothing : IsMetByAll (record { hand = 29; total = 58; crib = 0 })
of_nothing hand crib few also = grind (arith, nat_tests, few, also)

a_hand_of_29_misses_it : IsMetByAll (record { hand = 28; total = 58; crib = 0 }) → ⊥
a_hand_of_29_misses_it all = absurd (both_ways _ refl (all 29 0 (omega arith) (omega arith)))

a_crib_of_29_misses_it : IsMetByAll (record { hand = 29; total = 57; crib = 0 }) → ⊥
a_crib_of_29_misses_it all = absurd (both_ways _ refl (all 29 29 (omega arith) (omega arith)))

of_too_much : IsMetByNone (record { hand = 12; total = 20; crib = 21 })
of_too_much hand crib few also = grind (arith, nat_tests)

a_crib_of_20_meets_it : IsMetByNone (record { hand = 12; total = 20; crib = 20 }) → ⊥
a_crib_of_20_meets_it none = absurd (both_ways _ (none 0 20 (omega arith) (omega arith)) refl)

-- nor one of more for the crib than a crib has
of_30_points : IsMetByNone (record { hand = 29; total = 58; crib = 30 })
of_30_points hand crib few also = grind (arith, nat_tests, also)

a_crib_of_29_meets_it : IsMetByNone (record { hand = 29; total = 58; crib = 29 }) → ⊥
a_crib_of_29_meets_it none = absurd (both_ways _ (none 29 29 (omega arith) (omega arith)) refl)

-- with 5C 5D thrown the hand makes 12 and the crib 16: the fives meet a demand of 12, 28 and 16, and no stricter one
fives_meet : map (λ (demand : Demand). is_met_by four_aces demand aces_and_fives)
    (record { hand = 12; total = 28; crib = 16 } ∷ record { hand = 11; total = 28; crib = 16 } ∷ record { hand = 12; total = 27; crib = 16 }
    ∷ record { hand = 12; total = 28; crib = 17 } ∷ [])
    ≡ true ∷ false ∷ false ∷ false ∷ []
unfolding hand_points crib_points
fives_meet = refl

-- ---- the first deal that misses a demand, or none. The fives meet that of 28 points in all, and miss that of 27
abbrev IsNamed : ℕ → Option Dealt → Type 0
IsNamed total named = IsFirstMissingOrNone four_aces (record { hand = 12; total = total; crib = 16 }) named

-- the aces with the fives thrown, in pack order and not; and three aces
fives_are_named : (IsNamed 28 (Some aces_and_fives) → ⊥) × (IsNamed 27 (Some (record aces_and_fives { hold = 1 ∷ 0 ∷ 2 ∷ 3 ∷ [] })) → ⊥)
    × (AgreesInShow four_aces aces_and_fives → IsNamed 27 None → ⊥) × (IsNamed 27 (Some (record aces_and_fives { hold = 0 ∷ 1 ∷ 2 ∷ 8 ∷ [] })) → ⊥)
unfolding hand_points crib_points
fives_are_named = (
  λ first. both_ways true first.misses refl,
  λ first. both_ways false refl first.in_order,
  λ agrees all. both_ways false refl (all aces_and_fives agrees),
  λ first. let ranks = first.agrees.ranks_held in absurd cc,
)

-- 5D 5C come before 5C 5H, in whatever order they are written
abbrev turned : Dealt
turned = record aces_and_fives { throw = 17 ∷ 16 ∷ [] }

fives_in_order : (demand : Demand) → AgreesInShow four_aces turned → IsFalse (is_met_by four_aces demand turned) →
    IsFirstMissing four_aces demand (record aces_and_fives { throw = 16 ∷ 18 ∷ [] }) → ⊥
unfolding set_where
fives_in_order demand agrees misses first = absurd (both_ways true (first.first turned agrees misses) refl)

-- ---- the show
module _ {dealer : Side} {scores : Scores} {target own_hand : ℕ} {is_to_stop : Bool} {full : Full} where
  show_of_a_deal : IsShowAt dealer scores target is_to_stop own_hand full → (full.dealer ≡ dealer) × (full.scores ≡ scores) × (full.target ≡ target)
      × (full.stop ≡ is_to_stop) × (hand_points full.own_hold full.starter ≡ own_hand)
  show_of_a_deal is = (is.dealer_is, is.scores_are, is.target_is, is.stop_is, is.own_hand_is)

  of_255_points : IsShowAt dealer scores target is_to_stop own_hand full →
      hand_points full.opp.hold full.starter + crib_points (full.own_throw ++ full.opp.throw) full.starter ≤ 255
  of_255_points is = is.few
