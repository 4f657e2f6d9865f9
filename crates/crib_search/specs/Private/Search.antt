-- What the code finds for a knowledge. `Finds` defines the same for a history.
use Rattle.std.specs.Prelude.{◌≡◌, ℕ, suc, ◌≤◌, ◌⊎◌, Bool, ◌&&◌, List, ◌∷◌, Option, Some}
use Rattle.crib_cards.specs.Sets.{has}
use Rattle.crib_play.specs.Fitting.{fits_at}
use Rattle.crib_play.specs.Record.{count_of}
use Rattle.crib_cards.specs.declared.letters.Letter.{Letter}
use Rattle.crib_play.specs.History.{Event, Theirs}
use Rattle.crib_play.specs.declared.turns.Turn.{Turn}
use Rattle.crib_problem.specs.Setup.{Setup}
use Rattle.crib_know.specs.Knowledge.{Knowledge}
use Rattle.crib_know.specs.Hidden.{CanShow, KnowsAfter}
use Rattle.crib_sure.specs.Shows.{AreShowsOf}
use Rattle.crib_know.specs.contracts.know.KnowPartialEq.TheImpl as knows_compared
use Rattle.indexmap.specs.IndexMap.{get}
use Rattle.crib_search.specs.declared.nodes.DraftPlace.{DraftPlace}
use Rattle.crib_search.specs.declared.nodes.DraftNode.{DraftNode}
use Rattle.crib_search.specs.Trees.{Tree, Finish}
use Rattle.crib_search.specs.declared.table.FoundTable.{FoundTable}
use Rattle.crib_search.specs.declared.search.Search.{Search}
use Rattle.crib_search.specs.Private.Nodes.{IsMore, NamesFound}
use Rattle.crib_search.specs.Finder.{Finds}
use Rattle.crib_know.specs.Private.Ahead.{turns_ahead}

-- the knowledge is what the owner knows after some history of the problem
abbrev pub IsHere : Setup → Knowledge → Type 0
IsHere problem know = (history : List Event) × KnowsAfter know problem history

-- such a knowledge, and whose turn it is
pub record IsTurnOf (problem : Setup) (know : Knowledge) (turn : Turn) : Type 0 where
  pub here : IsHere problem know
  pub asked : know.round.asked ≡ turn

-- for each history that the knowledge belongs to, this is true of a tree or none, and the answer names it
pub record Tells (problem : Setup) (draft_nodes : List DraftNode) (know : Knowledge) (found : Option DraftPlace)
    (says : ℕ → List Event → Option Tree → Type 0) : Type 0 where
  pub each : (history : List Event) (more : ℕ) → KnowsAfter know problem history → turns_ahead know ≤ more →
      (tree : Option Tree) × NamesFound draft_nodes tree found × says more history tree

-- the answer names what is found
abbrev pub IsAnswer : Setup → List DraftNode → Knowledge → Option DraftPlace → Type 0
IsAnswer problem draft_nodes know found =
    Tells problem draft_nodes know found (λ more history tree. Finds (suc more) problem history tree)

-- the answer names what is found after this turn
abbrev pub IsAfter : Setup → List DraftNode → Knowledge → Event → Option DraftPlace → Type 0
IsAfter problem draft_nodes know event found =
    Tells problem draft_nodes know found (λ more history tree. Finds more problem (event ∷ history) tree)

-- the answer names the branch of a letter: what is found after it, or the end if no deal can show it
abbrev pub IsBranch : Setup → List DraftNode → Knowledge → Letter → Option DraftPlace → Type 0
IsBranch problem draft_nodes know letter found =
    Tells problem draft_nodes know found (λ more history tree.
    (CanShow problem history letter × Finds more problem (Theirs letter ∷ history) tree)
    ⊎ (¬ CanShow problem history letter × (tree ≡ Some Finish)))

-- the answer that a table has for a knowledge
abbrev pub answer_in : {A : Type 0} → FoundTable A → Knowledge → Option (Option DraftPlace)
answer_in table = get knows_compared.ghosts.eq table.found

-- each answer that a table has for a knowledge of the problem is right
pub record AreAnswers (problem : Setup) (draft_nodes : List DraftNode)
    (answers : Knowledge → Option (Option DraftPlace)) : Type 0 where
  pub each : (know : Knowledge) (found : Option DraftPlace) → IsHere problem know → answers know ≡ Some found →
      IsAnswer problem draft_nodes know found

-- a search for the problem: the shows are counted for it, and each answer of the table is right
pub record IsSearch {A : Type 0} (problem : Setup) (search : Search A) : Type 0 where
  pub shows : AreShowsOf problem search.shows
  pub answers : AreAnswers problem search.nodes (answer_in search.table)

-- such a search, asked at a turn
pub record IsTurnIn {A : Type 0} (problem : Setup) (search : Search A) (know : Knowledge) (turn : Turn) : Type 0 where
  pub good : IsSearch problem search
  pub here : IsHere problem know
  pub asked : know.round.asked ≡ turn

-- a search for the problem at a later time: each kept node stays at its index
pub record IsLater {A : Type 0} (problem : Setup) (before after : Search A) : Type 0 where
  pub good : IsSearch problem after
  pub more : IsMore before.nodes after.nodes

-- whether the owner still has a card and it fits
abbrev pub may_play : Knowledge → ℕ → Bool
may_play know card = has know.own_left card && fits_at (count_of know.round.pile) card
