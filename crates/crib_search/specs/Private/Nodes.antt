-- The nodes that the code keeps of plans in the making, and the trees that they represent.
use Rattle.std.specs.Prelude.{◌≡◌, ℕ, ◌<◌, ◌==◌, Bool, true, false, List, [], ◌∷◌, length, slice_get, Option}
use Rattle.std.specs.Prelude.{Some, None}
use Rattle.std.specs.List.{AllByRecursion}
use Rattle.crib_cards.specs.Cards.{IsCard}
use Rattle.crib_search.specs.declared.nodes.DraftPlace.{DraftPlace}
use Rattle.crib_search.specs.declared.nodes.DraftPlace.TheVariants.{End, At}
use Rattle.crib_search.specs.declared.nodes.DraftNode.{DraftNode}
use Rattle.crib_search.specs.declared.nodes.DraftNode.TheVariants.{Play, See}
use Rattle.crib_search.specs.Trees.{Tree, Finish, Plays, Sees, Branches, NoBranch, Branch, trees_of}

-- a place is the end, or at an index below a number
abbrev pub IsEarlier : ℕ → DraftPlace → Type 0
IsEarlier count End = Unit {0}
IsEarlier count (At index) = index < count

-- a node leads only to nodes below an index: it plays a card, or it has fourteen branches
abbrev pub IsBelow : ℕ → DraftNode → Type 0
IsBelow count (Play card next) = IsEarlier count next
IsBelow count (See nexts) = (length nexts ≡ 14) × AllByRecursion (IsEarlier count) nexts

-- kept nodes: each leads only to nodes before it, and no node is kept twice
pub record AreKept (draft_nodes : List DraftNode) : Type 0 where
  pub earlier : (index : ℕ) (draft_node : DraftNode) → slice_get draft_nodes index ≡ Some draft_node →
      IsBelow index draft_node
  pub once : (index other : ℕ) (draft_node : DraftNode) → slice_get draft_nodes index ≡ Some draft_node →
      slice_get draft_nodes other ≡ Some draft_node → index ≡ other

-- each kept node stays at its index
abbrev pub IsMore : List DraftNode → List DraftNode → Type 0
IsMore before after =
    (index : ℕ) (draft_node : DraftNode) → slice_get before index ≡ Some draft_node →
    slice_get after index ≡ Some draft_node

-- a place is that of a kept node
abbrev pub IsPlaceOf : List DraftNode → DraftNode → DraftPlace → Type 0
IsPlaceOf draft_nodes draft_node draft_place =
    (index : ℕ) × (draft_place ≡ At index) × (slice_get draft_nodes index ≡ Some draft_node)

-- a place names a tree: from the place on, the plan in the making is the tree
abbrev mutual
  pub Names : List DraftNode → Tree → DraftPlace → Type 0
  Names draft_nodes Finish draft_place = draft_place ≡ End
  Names draft_nodes (Plays card next) draft_place =
      (index : ℕ) × (after : DraftPlace) × (draft_place ≡ At index)
      × (slice_get draft_nodes index ≡ Some (Play card after))
      × Names draft_nodes next after
  Names draft_nodes (Sees branches) draft_place =
      (index : ℕ) × (nexts : List DraftPlace) × (draft_place ≡ At index)
      × (slice_get draft_nodes index ≡ Some (See nexts))
      × NameAll draft_nodes branches nexts

  pub NameAll : List DraftNode → Branches → List DraftPlace → Type 0
  NameAll draft_nodes NoBranch nexts = nexts ≡ []
  NameAll draft_nodes (Branch tree branches) nexts =
      (next : DraftPlace) × (others : List DraftPlace) × (nexts ≡ next ∷ others) × Names draft_nodes tree next
      × NameAll draft_nodes branches others

-- an answer names what was found: a place that names the tree, or none
abbrev pub NamesFound : List DraftNode → Option Tree → Option DraftPlace → Type 0
NamesFound draft_nodes None found = found ≡ None
NamesFound draft_nodes (Some tree) found =
    (draft_place : DraftPlace) × (found ≡ Some draft_place) × Names draft_nodes tree draft_place

-- the index of the node of the first place that is not the end, if there is one
abbrev pub first_node : List DraftPlace → Option ℕ
first_node [] = None
first_node (End ∷ draft_places) = first_node draft_places
first_node (At index ∷ draft_places) = Some index

-- whether a place is the end or this node
abbrev pub goes_to : ℕ → DraftPlace → Bool
goes_to index End = true
goes_to index (At other) = other == index

-- whether there is a node and it plays a card
abbrev pub is_play_at : Option DraftNode → Bool
is_play_at None = false
is_play_at (Some (Play card next)) = true
is_play_at (Some (See nexts)) = false

-- a tree whose plays are cards of the pack and whose looks have fourteen branches
abbrev mutual
  pub IsWhole : Tree → Type 0
  IsWhole Finish = Unit {0}
  IsWhole (Plays card next) = IsCard card × IsWhole next
  IsWhole (Sees branches) = (length (trees_of branches) ≡ 14) × AreWhole branches

  pub AreWhole : Branches → Type 0
  AreWhole NoBranch = Unit {0}
  AreWhole (Branch tree branches) = IsWhole tree × AreWhole branches
