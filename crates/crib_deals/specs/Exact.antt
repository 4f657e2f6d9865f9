-- Exactly so many deals have a property.
use Rattle.std.specs.Prelude.{◌≡◌, ◌↔◌, ◌⊎◌, ℕ, List, [], ◌∷◌, length, IsTrue}
use Rattle.crib_cards.specs.Deals.{is_in_pack_order}
use Rattle.crib_cards.specs.Sets.{AreDifferent}
use Rattle.crib_cards.specs.declared.sides.Dealt.{Dealt}

-- an item is in a list
abbrev pub IsIn : {X : Type 0} → X → List X → Type 0
IsIn item [] = ⊥
IsIn item (other ∷ items) = (other ≡ item) ⊎ IsIn item items

-- exactly so many deals have a property: a list has each deal in pack order that has it, once, and no other
pub record AreExactly (Has : Dealt → Type 0) (count : ℕ) : Type 0 where
  pub deals : List Dealt
  pub different : AreDifferent deals
  pub each : (dealt : Dealt) → IsIn dealt deals ↔ (IsTrue (is_in_pack_order dealt) × Has dealt)
  pub counted : length deals ≡ count
