-- Trees that state a card wherever the owner has to choose one.
use Rattle.std.specs.Prelude.{◌≡◌, ℕ, ◌+◌, nat_le, List, [], ◌∷◌, length, slice_get, Some, IsTrue, IsFalse}
use Rattle.crib_cards.specs.Cards.{card_value}
use Rattle.crib_cards.specs.Sets.{has}
use Rattle.crib_cards.specs.declared.letters.Letter.{Letter}
use Rattle.crib_cards.specs.declared.moves.Move.TheVariants as move
use Rattle.crib_play.specs.declared.turns.Turn.TheVariants as turns
use Rattle.crib_play.specs.History.{Event, Own, Theirs}
use Rattle.crib_problem.specs.Setup.{Setup}
use Rattle.crib_know.specs.Knowledge.{Knowledge, own_cards, own_left, count_after, asked_now}
use Rattle.crib_know.specs.Hidden.{CanShow, KnowsAfter}
use Rattle.crib_search.specs.declared.nodes.DraftPlace.{DraftPlace}
use Rattle.crib_search.specs.declared.nodes.DraftNode.{DraftNode}
use Rattle.crib_search.specs.Trees.{Tree, Finish, Plays, joined_tree}
use Rattle.crib_search.specs.Finder.{letters, options}
use Rattle.crib_search.specs.Private.Nodes.{IsWhole, Names}

-- the owner has a card after a history, and it fits
pub record IsOption (problem : Setup) (history : List Event) (card : ℕ) : Type 0 where
  pub held : IsTrue (has problem.hold card)
  pub free : IsFalse (has (own_cards history) card)
  pub fits : IsTrue (nat_le (count_after problem history + card_value card) 31)

-- some cards, played one after another, whatever the opponent shows
abbrev pub in_order : List ℕ → Tree
in_order [] = Finish
in_order (card ∷ cards) = Plays card (in_order cards)

-- from a history on, a tree states a card that the owner may play wherever the owner has to choose one
pub data States (problem : Setup) : List Event → Tree → Type 0 where
  Lowest : (history : List Event) (tree : Tree) → tree ≡ in_order (own_left problem history) →
      States problem history tree
  Goes : (history : List Event) (tree : Tree) → asked_now problem history ≡ turns.Owner → options problem history ≡ [] →
      States problem (Own move.Go ∷ history) tree → States problem history tree
  Says : (history : List Event) (tree : Tree) (card : ℕ) (next : Tree) → asked_now problem history ≡ turns.Owner →
      IsOption problem history card → tree ≡ Plays card next → States problem (Own (move.Card card) ∷ history) next →
      States problem history tree
  Looks : (history : List Event) (tree : Tree) (branches : List Tree) → asked_now problem history ≡ turns.Opponent →
      tree ≡ joined_tree branches → length branches ≡ 14 →
      ((index : ℕ) (letter : Letter) (branch : Tree) → slice_get letters index ≡ Some letter →
      slice_get branches index ≡ Some branch → CanShow problem history letter →
      States problem (Theirs letter ∷ history) branch) →
      States problem history tree

-- a tree states a card from each history on that the knowledge represents
abbrev pub StatesAt : Setup → Knowledge → Tree → Type 0
StatesAt problem know tree = (history : List Event) → KnowsAfter know problem history → States problem history tree

-- the same after a letter, if some deal can show it
abbrev pub StatesAfter : Setup → Knowledge → Letter → Tree → Type 0
StatesAfter problem know letter tree =
    (history : List Event) → KnowsAfter know problem history → CanShow problem history letter →
    States problem (Theirs letter ∷ history) tree

-- a place names a tree of which a plan can be made, and this is true of the tree
pub record IsPlanned (draft_nodes : List DraftNode) (Says : Tree → Type 0) (draft_place : DraftPlace) : Type 0 where
  pub tree : Tree
  pub names : Names draft_nodes tree draft_place
  pub whole : IsWhole tree
  pub says : Says tree
