-- What is known of the nodes of a plan stays right while it is found out of nodes before them.
use Rattle.std.proofs.Common.{◌≡◌, ◌≢◌, ℕ, zero, suc, ◌+◌, ◌<◌, ◌≤◌, Bool, true, false, Option, List, [], ◌∷◌, length, replicate, slice_get, set}
use Rattle.std.proofs.Common.{Some, option_map, unwrap_or, refl, sym, ap, ◌∙◌, arith, inl, inr}
use Rattle.std.specs.List.{AllByRecursion}
use Rattle.std.proofs.lemmas.Bool.{cases_eq}
use Rattle.std.proofs.lemmas.Option.{slice_get_past}
use Rattle.crib_plan.specs.declared.plan.Next.{Next}
use Rattle.crib_plan.specs.declared.plan.Next.TheVariants.{End, To}
use Rattle.crib_plan.specs.declared.plan.Node.{Node}
use Rattle.crib_plan.specs.declared.plan.Node.TheVariants.{Play, See}
use Rattle.crib_plan.specs.Nodes.{IsLater, IsNode, AreNodes}
use Rattle.crib_plan_sheet.specs.Private.Spots.{levels_at, cards_at, most_levels, node_levels, node_cards, is_first_apart, AreLow, AreSized}
use Rattle.crib_plan_sheet.specs.Private.Spots.{IsWhole, IsBroken}
use Rattle.crib_plan_sheet.specs.Private.Ways.{ways_or_named, ways_to}
use Rattle.crib_plan_sheet.specs.declared.spots.Spot.{Spot}
use Rattle.crib_plan_sheet.proofs.PlanSheets.{node_is}

pub get_set_same : (spots : List Spot) (i : ℕ) (spot : Spot) → i < length spots → slice_get (set spots i spot) i ≡ Some spot
get_set_same [] i spot within = absurd (omega arith)
get_set_same (first ∷ spots) zero spot within = refl
get_set_same (first ∷ spots) (suc i) spot within = get_set_same spots i spot (omega arith)

pub get_set_other : (spots : List Spot) (i j : ℕ) (spot : Spot) → i ≢ j → slice_get (set spots i spot) j ≡ slice_get spots j
get_set_other (first ∷ spots) zero zero spot differs = absurd (differs refl)
get_set_other (first ∷ spots) (suc i) (suc j) spot differs = get_set_other spots i j spot (λ e. differs (ap suc e))
get_set_other _ _ _ spot differs = refl

-- ---- low spots

low_number : (field : Spot → ℕ) (spots : List Spot) (i : ℕ) (spot : Spot) →
    ((j : ℕ) → unwrap_or (option_map field (slice_get spots j)) 0 ≤ 4) → field spot ≤ 4 →
    (j : ℕ) → unwrap_or (option_map field (slice_get (set spots i spot) j)) 0 ≤ 4
low_number field (first ∷ spots) zero spot all here zero = here
low_number field (first ∷ spots) (suc i) spot all here (suc j) = low_number field spots i spot (λ k. all (suc k)) here j
low_number field _ _ spot all here j = all j

pub low_set : (spots : List Spot) (i : ℕ) (spot : Spot) → AreLow spots → spot.levels ≤ 4 → spot.cards ≤ 4 → AreLow (set spots i spot)
low_set spots i spot low levels cards = record {
  levels = elim [ End ↦ omega arith | To j ↦ low_number (λ (s : Spot). s.levels) spots i spot (λ k. low.levels (To k)) levels j ];
  cards = elim [ End ↦ omega arith | To j ↦ low_number (λ (s : Spot). s.cards) spots i spot (λ k. low.cards (To k)) cards j ];
}

-- ---- sizes

module _ (number count from : ℕ) (spots : List Spot) (spot : Spot) (above : number ≤ from) where
  still_there : (j : ℕ) → IsLater from count (To j) → slice_get (set spots number spot) j ≡ slice_get spots j
  still_there j later = let far = later.0 in get_set_other spots number j spot (λ e. absurd (omega arith))

  set_levels : (next : Next) → IsLater from count next → levels_at (set spots number spot) next ≡ levels_at spots next
  set_levels End later = refl
  set_levels (To j) later = ap (λ found. unwrap_or (option_map (λ (s : Spot). s.levels) found) 0) (still_there j later)

  set_cards : (next : Next) → IsLater from count next → cards_at (set spots number spot) next ≡ cards_at spots next
  set_cards End later = refl
  set_cards (To j) later = ap (λ found. unwrap_or (option_map (λ (s : Spot). s.cards) found) 0) (still_there j later)

  set_most : (branches : List Next) → AllByRecursion (IsLater from count) branches → most_levels (set spots number spot) branches ≡ most_levels spots branches
  set_most [] later = refl
  set_most (next ∷ branches) later = rw (set_levels next later.0, set_most branches later.1) refl

  node_levels_same : (node : Node) → IsNode from count node → node_levels (set spots number spot) node ≡ node_levels spots node
  node_levels_same (Play card next) is = set_levels next is.1
  node_levels_same (See branches) is = ap (λ n. n + 1) (set_most branches is.1)

  node_cards_same : (node : Node) → IsNode from count node → node_cards (set spots number spot) node ≡ node_cards spots node
  node_cards_same (Play card next) is = ap (λ n. n + 1) (set_cards next is.1)
  node_cards_same (See branches) is = refl

  whole_same : (levels cards ways : ℕ) (node : Node) → IsNode from count node → IsWhole spots levels cards ways node →
      IsWhole (set spots number spot) levels cards ways node
  whole_same levels cards ways node is whole = grind (arith, node_levels_same node is, node_cards_same node is, whole)

  broken_same : (levels cards ways : ℕ) (node : Node) → IsNode from count node → IsBroken spots levels cards ways node →
      IsBroken (set spots number spot) levels cards ways node
  broken_same levels cards ways node is broken = grind (arith, node_levels_same node is, node_cards_same node is, broken)

-- what is known of a node, as its entry says
abbrev levels_in : Option Spot → ℕ
levels_in found = unwrap_or (option_map (λ spot. spot.levels) found) 0

abbrev cards_in : Option Spot → ℕ
cards_in found = unwrap_or (option_map (λ spot. spot.cards) found) 0

abbrev apart_from : Option Spot → Bool
apart_from found = unwrap_or (option_map (λ spot. spot.is_apart) found) true

-- what is known of a node by its entry
abbrev IsKnownBy : List Spot → Option Spot → ℕ → Node → Type 0
IsKnownBy spots found ways node =
    (apart_from found ≡ false → IsWhole spots (levels_in found) (cards_in found) ways node)
    × (apart_from found ≡ true → IsBroken spots (levels_in found) (cards_in found) ways node)

-- what is known of one more node
pub sized_set : (named : List Next) (number : ℕ) (nodes : List Node) (spots : List Spot) (node : Node) (spot : Spot) → AreNodes 0 (length nodes) nodes →
    number < length spots → slice_get nodes number ≡ Some node → AreSized named (number + 1) nodes spots →
    (spot.is_apart ≡ false → IsWhole spots spot.levels spot.cards (ways_or_named named number (ways_to nodes number)) node) →
    (spot.is_apart ≡ true → IsBroken spots spot.levels spot.cards (ways_or_named named number (ways_to nodes number)) node) →
    AreSized named number nodes (set spots number spot)
sized_set named number nodes spots node spot are within is old whole broken =
    let ways : ℕ → ℕ = λ i. ways_or_named named i (ways_to nodes i) in
    let new : List Spot = set spots number spot in
    let known : (i : ℕ) (other : Node) → number ≤ i → slice_get nodes i ≡ Some other → IsKnownBy new (slice_get new i) (ways i) other =
    λ i other above found.
    let fits = node_is nodes i other are found in
    let had : IsKnownBy spots (slice_get new i) (ways i) other =
    elim (cases_eq number i) [
      | inl e ↦
          (let at_i : slice_get new i ≡ Some spot = ap (slice_get new) (sym e) ∙ get_set_same spots number spot within in
          let same : node ≡ other = (let f : Some node ≡ Some other = sym is ∙ ap (slice_get nodes) e ∙ found in cc) in
          rw (at_i, ← e, ← same) (whole, broken))
      | inr differs ↦
          rw (get_set_other spots number i spot differs) (old.whole i other (omega (arith, above)) found, old.broken i other (omega (arith, above)) found)
    ] in (
      λ inline. whole_same number (length nodes) i spots spot above _ _ (ways i) other fits (had.0 inline),
      λ apart. broken_same number (length nodes) i spots spot above _ _ (ways i) other fits (had.1 apart),
    ) in
    record { whole = λ i other above found. (known i other above found).0; broken = λ i other above found. (known i other above found).1 }

-- at first, nothing is known
pub none_sized : (named : List Next) (number : ℕ) (nodes : List Node) (spots : List Spot) → length nodes ≤ number → AreSized named number nodes spots
none_sized named number nodes spots past = record {
  whole = λ i node above found inline. absurd (grind (arith, slice_get_past nodes i, found));
  broken = λ i node above found apart. absurd (grind (arith, slice_get_past nodes i, found));
}

pub sized_later : (named : List Next) (number other : ℕ) (nodes : List Node) (spots : List Spot) → number ≤ other → AreSized named number nodes spots →
    AreSized named other nodes spots
sized_later named number other nodes spots less are =
    record { whole = λ i node above. are.whole i node (omega (arith, less, above)); broken = λ i node above. are.broken i node (omega (arith, less, above)) }

-- ---- the first node

pub first_set : (spots : List Spot) (i : ℕ) (spot : Spot) → 0 < i → is_first_apart (set spots i spot) ≡ is_first_apart spots
first_set (other ∷ spots) zero spot later = absurd (omega arith)
first_set _ _ spot later = refl

-- ---- spots of which nothing is known

number_same : (field : Spot → ℕ) (count : ℕ) (spot : Spot) → field spot ≤ 4 → (j : ℕ) →
    unwrap_or (option_map field (slice_get (replicate count spot) j)) 0 ≤ 4
number_same field zero spot few j = omega arith
number_same field (suc count) spot few zero = few
number_same field (suc count) spot few (suc j) = number_same field count spot few j

pub low_unknown : (count : ℕ) (spot : Spot) → spot.levels ≤ 4 → spot.cards ≤ 4 → AreLow (replicate count spot)
low_unknown count spot levels cards = record {
  levels = elim [ End ↦ omega arith | To j ↦ number_same (λ (s : Spot). s.levels) count spot levels j ];
  cards = elim [ End ↦ omega arith | To j ↦ number_same (λ (s : Spot). s.cards) count spot cards j ];
}

pub first_unknown : (count : ℕ) (spot : Spot) → spot.is_apart ≡ false → is_first_apart (replicate count spot) ≡ false
first_unknown zero spot inline = refl
first_unknown (suc count) spot inline = inline
