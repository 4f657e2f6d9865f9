-- Worked examples: rows in order.
use Rattle.std.proofs.Common.{[], ◌∷◌, refl, inl, inr, arith}
use Rattle.std.proofs.lemmas.Grind.{elements}
use Rattle.crib_cards.specs.declared.sides.Dealt.{Dealt}
use Rattle.crib_beaten.specs.declared.tally.RanksTally.{RanksTally}
use Rattle.crib_beaten.specs.Tally.{AreInOrder, HasRow}

abbrev with_six : Dealt
with_six = record { hold = 0 ∷ 4 ∷ 8 ∷ 12 ∷ []; throw = 16 ∷ 20 ∷ [] }

-- ---- rows
abbrev up_to_four : RanksTally
up_to_four = record { ranks = 1 ∷ 2 ∷ 3 ∷ 4 ∷ []; open_deals = 820; beaten = 1 }

abbrev with_a_five : RanksTally
with_a_five = record { ranks = 1 ∷ 2 ∷ 3 ∷ 5 ∷ []; open_deals = 820; beaten = 820 }

rows_in_order : AreInOrder (up_to_four ∷ with_a_five ∷ [])
rows_in_order = grind (arith, elements)

abbrev of_aces_alone : RanksTally
of_aces_alone = record { ranks = 1 ∷ 1 ∷ 1 ∷ 1 ∷ []; open_deals = 1; beaten = 1 }

rows_out_of_order : (AreInOrder (with_a_five ∷ up_to_four ∷ []) → ⊥) × (AreInOrder (up_to_four ∷ up_to_four ∷ []) → ⊥)
    × (AreInOrder (of_aces_alone ∷ with_a_five ∷ up_to_four ∷ []) → ⊥)
rows_out_of_order = (
  λ order. let first = order.0 0 up_to_four in grind (arith, first),
  λ order. let first = order.0 0 up_to_four in grind (arith, first),
  λ order. let second = order.1.0 0 up_to_four in grind (arith, second),
)

row_of_a_deal : HasRow (with_a_five ∷ up_to_four ∷ []) with_six × (HasRow (with_a_five ∷ []) with_six → ⊥)
row_of_a_deal = ((up_to_four, inr (inl refl), refl), (λ has. grind (arith, has)))
