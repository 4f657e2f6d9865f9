-- The places of a plan that is made from its beginning on.
use Rattle.std.proofs.Common.{◌≡◌, ℕ, suc, List, [], ◌∷◌, ◌++◌, length, refl, sym, ap, subst, IsTrue}
use Rattle.std.specs.List.{AllZip}
use Rattle.crib_cards.specs.Cards.{IsCard}
use Rattle.crib_cards.specs.Sets.{IsCardSet, has}
use Rattle.crib_cards.specs.declared.letters.Letter.{Letter}
use Rattle.crib_cards.proofs.LowestCard.{in_set}
use Rattle.crib_cards.proofs.SetFacts.{IsCardSet-set_of}
use Rattle.crib_problem.specs.Setup.{Setup}
use Rattle.crib_know.specs.Knowledge.{Knowledge}
use Rattle.crib_search.specs.declared.nodes.DraftPlace.{DraftPlace}
use Rattle.crib_search.specs.declared.nodes.DraftPlace.TheVariants.{End}
use Rattle.crib_search.specs.declared.nodes.DraftNode.{DraftNode}
use Rattle.crib_search.specs.declared.nodes.DraftNode.TheVariants.{Play}
use Rattle.crib_search.specs.Trees.{Tree, Finish, Plays, joined_tree}
use Rattle.crib_search.specs.Finder.{letters}
use Rattle.crib_search.specs.Private.Nodes.{IsMore, IsPlaceOf, Names}
use Rattle.crib_search.specs.Private.States.{IsPlanned}
use Rattle.crib_search.specs.Private.Search.{IsHere}
use Rattle.crib_search.proofs.KeptNodes.{names_more}
use Rattle.crib_search.proofs.FoundAfterTurns.{zip_push}
use Rattle.crib_search.proofs.FoundIsPlan.{AllWhole, joined_whole}

-- ---- nodes that are kept
pub more_trans : (one two three : List DraftNode) → IsMore one two → IsMore two three → IsMore one three
more_trans one two three first second index draft_node there = second index draft_node (first index draft_node there)

-- ---- a card that is left
pub left_is_card : (know : Knowledge) (problem : Setup) → IsHere problem know → (card : ℕ) → IsTrue (has know.own_left card) → IsCard card
left_is_card know problem here card left =
    let set : IsCardSet know.own_left = subst (λ (k : Knowledge). IsCardSet k.own_left) (sym here.1.knowledge) (IsCardSet-set_of _) in
    in_set know.own_left card set left

-- ---- one place
pub planned_end : (draft_nodes : List DraftNode) (Says : Tree → Type 0) → Says Finish → IsPlanned draft_nodes Says End
planned_end draft_nodes Says says = record { tree = Finish; names = refl; whole = tt; says = says }

pub planned_map : (draft_nodes : List DraftNode) (Says Other : Tree → Type 0) → ((tree : Tree) → Says tree → Other tree) → (draft_place : DraftPlace) →
    IsPlanned draft_nodes Says draft_place → IsPlanned draft_nodes Other draft_place
planned_map draft_nodes Says Other step draft_place planned =
    record { tree = planned.tree; names = planned.names; whole = planned.whole; says = step planned.tree planned.says }

module _ (before after : List DraftNode) (more : IsMore before after) where
  pub planned_more : (Says : Tree → Type 0) (draft_place : DraftPlace) → IsPlanned before Says draft_place → IsPlanned after Says draft_place
  planned_more Says draft_place planned = record {
    tree = planned.tree;
    names = names_more before after more planned.tree draft_place planned.names;
    whole = planned.whole;
    says = planned.says;
  }

  pub planned_play : (card : ℕ) → IsCard card → (Says Other : Tree → Type 0) → ((tree : Tree) → Says tree → Other (Plays card tree)) →
      (next : DraftPlace) → IsPlanned before Says next → (draft_place : DraftPlace) → IsPlaceOf after (Play card next) draft_place →
      IsPlanned after Other draft_place
  planned_play card is_card Says Other step next planned draft_place at =
      let later = planned_more Says next planned in
      record { tree = Plays card later.tree; names = (at.0, next, at.1, at.2, later.names); whole = (is_card, later.whole); says = step later.tree later.says }

-- ---- the places of some letters
abbrev pub ArePlanned : List DraftNode → (Letter → Tree → Type 0) → List Letter → List DraftPlace → Type 0
ArePlanned draft_nodes Says = AllZip (λ letter next. IsPlanned draft_nodes (Says letter) next)

pub planned_push : (before after : List DraftNode) → IsMore before after → (Says : Letter → Tree → Type 0) (shown : List Letter) (nexts : List DraftPlace)
    (letter : Letter) (next : DraftPlace) → ArePlanned before Says shown nexts → IsPlanned after (Says letter) next →
    ArePlanned after Says (shown ++ letter ∷ []) (nexts ++ next ∷ [])
planned_push before after more Says shown nexts letter next all planned =
    zip_push (λ other place. IsPlanned before (Says other) place) (λ other place. IsPlanned after (Says other) place)
    (λ other place is. planned_more before after more (Says other) place is) shown nexts letter next all planned

pub record AreTrees (draft_nodes : List DraftNode) (Says : Letter → Tree → Type 0) (shown : List Letter) (nexts : List DraftPlace) : Type 0 where
  pub trees : List Tree
  pub names : AllZip (Names draft_nodes) trees nexts
  pub whole : AllWhole trees
  pub says : AllZip Says shown trees
  pub count : length trees ≡ length shown

pub trees_planned : (draft_nodes : List DraftNode) (Says : Letter → Tree → Type 0) (shown : List Letter) (nexts : List DraftPlace) →
    ArePlanned draft_nodes Says shown nexts → AreTrees draft_nodes Says shown nexts
trees_planned draft_nodes Says [] [] all = record { trees = []; names = tt; whole = tt; says = tt; count = refl }
trees_planned draft_nodes Says (letter ∷ shown) (next ∷ nexts) all =
    let rest = trees_planned draft_nodes Says shown nexts all.1 in
    record {
      trees = all.0.tree ∷ rest.trees;
      names = (all.0.names, rest.names);
      whole = (all.0.whole, rest.whole);
      says = (all.0.says, rest.says);
      count = ap suc rest.count;
    }
trees_planned draft_nodes Says shown nexts all = absurd all

pub planned_joined : (before after : List DraftNode) (Says : Letter → Tree → Type 0) (Other : Tree → Type 0) →
    ((trees : List Tree) → length trees ≡ 14 → AllZip Says letters trees → Other (joined_tree trees)) → (nexts : List DraftPlace)
    (draft_place : DraftPlace) → ArePlanned before Says letters nexts →
    ((trees : List Tree) → AllZip (Names before) trees nexts → Names after (joined_tree trees) draft_place) → IsPlanned after Other draft_place
planned_joined before after Says Other step nexts draft_place all joined =
    let are = trees_planned before Says letters nexts all in
    record {
      tree = joined_tree are.trees;
      names = joined are.trees are.names;
      whole = joined_whole are.trees are.whole are.count;
      says = step are.trees are.count are.says;
    }
