-- What is known of the nodes of a plan while paragraphs are chosen.
use Rattle.std.specs.Prelude.{◌≡◌, ℕ, ◌+◌, ◌<◌, ◌≤◌, max, Bool, true, false, List, [], ◌∷◌, Some, slice_get}
use Rattle.std.specs.Prelude.{option_map, unwrap_or}
use Rattle.crib_plan.specs.declared.plan.Next.{Next}
use Rattle.crib_plan.specs.declared.plan.Next.TheVariants.{End, To}
use Rattle.crib_plan.specs.declared.plan.Node.{Node}
use Rattle.crib_plan.specs.declared.plan.Node.TheVariants.{Play, See}
use Rattle.crib_plan_sheet.specs.PlanOutline.{IsTooLarge}
use Rattle.crib_plan_sheet.specs.Private.Ways.{ways_or_named, ways_to}
use Rattle.crib_plan_sheet.specs.declared.spots.Spot.{Spot}

-- the levels of lines with which a row goes on at a place
abbrev pub levels_at : List Spot → Next → ℕ
levels_at spots End = 0
levels_at spots (To node) = unwrap_or (option_map (λ spot. spot.levels) (slice_get spots node)) 0

-- the cards with which a row goes on at a place
abbrev pub cards_at : List Spot → Next → ℕ
cards_at spots End = 0
cards_at spots (To node) = unwrap_or (option_map (λ spot. spot.cards) (slice_get spots node)) 0

-- whether a node has a paragraph of its own
abbrev pub is_apart_at : List Spot → ℕ → Bool
is_apart_at spots node = unwrap_or (option_map (λ spot. spot.is_apart) (slice_get spots node)) true

-- no row goes on with more than four levels or four cards
pub record AreLow (spots : List Spot) : Type 0 where
  pub levels : (place : Next) → levels_at spots place ≤ 4
  pub cards : (place : Next) → cards_at spots place ≤ 4

-- the most levels of lines with which a row goes on at some places
abbrev pub most_levels : List Spot → List Next → ℕ
most_levels spots [] = 0
most_levels spots (place ∷ places) = max (levels_at spots place) (most_levels spots places)

-- the levels of lines in the row of a node
abbrev pub node_levels : List Spot → Node → ℕ
node_levels spots (Play card next) = levels_at spots next
node_levels spots (See branches) = most_levels spots branches + 1

-- the cards with which the row of a node begins
abbrev pub node_cards : List Spot → Node → ℕ
node_cards spots (Play card next) = cards_at spots next + 1
node_cards spots (See branches) = 0

-- a node with a paragraph of its own has a row that is too large, and rows that lead to it go on with nothing
pub record IsBroken (spots : List Spot) (levels cards ways : ℕ) (node : Node) : Type 0 where
  pub no_levels : levels ≡ 0
  pub no_cards : cards ≡ 0
  pub large : IsTooLarge (node_cards spots node) (node_levels spots node) ways

-- a node without one has the size that is known of it, and if it is led to twice, no level
pub record IsWhole (spots : List Spot) (levels cards ways : ℕ) (node : Node) : Type 0 where
  pub its_levels : levels ≡ node_levels spots node
  pub its_cards : cards ≡ node_cards spots node
  pub once : 1 < ways → levels ≡ 0

-- what is known of the nodes from a number on is right. Those among the named places have paragraphs of their own
pub record AreSized (named : List Next) (number : ℕ) (nodes : List Node) (spots : List Spot) : Type 0 where
  pub whole :
      (i : ℕ) (node : Node) → number ≤ i → slice_get nodes i ≡ Some node → is_apart_at spots i ≡ false →
      IsWhole spots (levels_at spots (To i)) (cards_at spots (To i)) (ways_or_named named i (ways_to nodes i)) node
  pub broken :
      (i : ℕ) (node : Node) → number ≤ i → slice_get nodes i ≡ Some node → is_apart_at spots i ≡ true →
      IsBroken spots (levels_at spots (To i)) (cards_at spots (To i)) (ways_or_named named i (ways_to nodes i)) node

-- the first node has no paragraph of its own
abbrev pub is_first_apart : List Spot → Bool
is_first_apart spots = unwrap_or (option_map (λ spot. spot.is_apart) (slice_get spots 0)) false
