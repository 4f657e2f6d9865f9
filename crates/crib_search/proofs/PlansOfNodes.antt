-- The plan that is made of the nodes that a walk left, and the answers of the finder.
use Rattle.std.proofs.Common.{◌≡◌, ◌≤◌, List, [], ◌∷◌, length, Option, Some, None, refl, sym, ap, ◌∙◌, subst, arith}
use Rattle.std.specs.Prelude.{Result, Ok, Err, IsErrAnd}
use Rattle.crib_problem.specs.Setup.{Setup, IsSetup}
use Rattle.crib_know.specs.Knowledge.{Knowledge, played_events, knowledge_after}
use Rattle.crib_know.specs.Hidden.{KnowsAfter}
use Rattle.crib_know.proofs.LedHistories.{IsLed}
use Rattle.crib_know.proofs.RecordTurns.{possible_led}
use Rattle.crib_search.specs.declared.nodes.DraftPlace.{DraftPlace}
use Rattle.crib_search.specs.declared.nodes.DraftNode.{DraftNode}
use Rattle.crib_search.specs.Trees.{Tree, trees_after_walk, plan_of_tree}
use Rattle.crib_search.specs.Private.Nodes.{AreKept, Names, NamesFound}
use Rattle.crib_search.specs.Private.Numbers.{AreLeft, IsWalk, Walked, nodes_of_indices}
use Rattle.crib_search.specs.Finder.{FindsTree, IsFound}
use Rattle.crib_know.specs.Private.Ahead.{turns_ahead}
use Rattle.crib_search.specs.Private.Search.{IsAnswer}
use Rattle.crib_play.specs.History.{Event}
use Rattle.crib_know.proofs.TurnsAhead.{turn_falls}
use Rattle.crib_search.proofs.TreeWalks.{walk_closed, leads_in}
use Rattle.crib_search.proofs.NumberedNodes.{nodes_are, plan_count, same_count}
use Rattle.crib_search.proofs.FoundAfterTurns.{none_named, some_named}

-- ---- the plan
module _ (draft_nodes : List DraftNode) (kept : AreKept draft_nodes) (first : DraftPlace) (walked : Walked) (same : walked.draft_nodes ≡ draft_nodes)
    (walk : IsWalk draft_nodes first [] walked.left) (tree : Tree) (names : Names draft_nodes tree first) where
  abbrev all : List Tree
  all = trees_after_walk tree []

  are : AreLeft draft_nodes all walked.left
  are = walk tree [] names tt

  pub size_is : length (plan_of_tree tree) ≡ length walked.left
  size_is = plan_count all all (walk_closed tree) ∙ same_count draft_nodes all walked.left are

  pub plan_is : nodes_of_indices walked.draft_nodes walked.left walked.left ≡ plan_of_tree tree
  plan_is = rw same (nodes_are draft_nodes kept all walked.left are all walked.left are (λ other h. leads_in all (walk_closed tree) other h))

-- ---- from the start
-- no more turns may be next than at the first lead
ahead_led : (problem : Setup) → IsSetup problem → (history : List Event) → IsLed problem history → turns_ahead (knowledge_after problem history) ≤ 24
ahead_led problem setup [] led = let e : turns_ahead (knowledge_after problem []) ≡ 24 = refl in omega (arith, e)
ahead_led problem setup (event ∷ history) led =
    omega (arith, turn_falls problem setup event history led, ahead_led problem setup history led.0)

module _ (problem : Setup) (draft_nodes : List DraftNode) (start : Knowledge) (knows : KnowsAfter start problem (played_events problem))
    (found : Option DraftPlace) (answer : IsAnswer problem draft_nodes start found) where
  tree_found : (tree : Option Tree) × NamesFound draft_nodes tree found × FindsTree problem tree
  unfolding FindsTree
  tree_found =
      let most = ahead_led problem knows.setup (played_events problem) (possible_led problem knows.setup (played_events problem) knows.possible) in
      let ahead : turns_ahead start ≡ turns_ahead (knowledge_after problem (played_events problem)) = ap turns_ahead knows.knowledge in
      answer.each (played_events problem) 29 knows (omega (arith, most, ahead))

  -- no plan is found
  pub none_found : found ≡ None → IsFound problem None
  none_found none =
      (None, rw (none_named draft_nodes tree_found.0 (subst (λ f. NamesFound draft_nodes tree_found.0 f) none tree_found.1)) at tree_found.2, refl)

  -- a plan is found
  pub first_found : (first : DraftPlace) → found ≡ Some first → (tree : Tree) × Names draft_nodes tree first × FindsTree problem (Some tree)
  first_found first some =
      let named = some_named draft_nodes tree_found.0 first (subst (λ f. NamesFound draft_nodes tree_found.0 f) some tree_found.1) in
      (named.0, named.2, rw named.1 at tree_found.2)

-- a fault that is passed on
pub err_is : {T E : Type 0} (result : Result T E) (fault large : E) → IsErrAnd result (λ y. y ≡ fault) → result ≡ Err large → fault ≡ large
err_is (Ok value) fault large same e = absurd same
err_is (Err other) fault large same e = sym same ∙ cc

-- ---- what is not so
pub not_fault : {T E Any : Type 0} {value : T} {fault : E} → Ok value ≡ Err fault → Any
not_fault e = absurd cc

pub not_some : {T Any : Type 0} {value : T} → None ≡ Some value → Any
not_some e = absurd cc
