-- The nodes of the plan that is found are a plan, if there are not too many.
use Rattle.std.proofs.Common.{◌≡◌, ℕ, zero, suc, ◌≤◌, not, ◌&&◌, List, [], ◌∷◌, length, Some, None, refl, ap, ◌∙◌}
use Rattle.std.proofs.Common.{inl, inr}
use Rattle.std.specs.List.{AllByRecursion, AllZip, filter, list_all}
use Rattle.std.proofs.lemmas.List.Elements.{All-filter, All-from_recursion, recursion_from_All}
use Rattle.std.proofs.lemmas.Bool.{cases_lt, cond_both}
use Rattle.crib_cards.specs.Sets.{has}
use Rattle.crib_cards.specs.declared.letters.Letter.{Letter}
use Rattle.crib_cards.specs.declared.moves.Move.TheVariants as move
use Rattle.crib_play.specs.declared.turns.Turn.{Turn}
use Rattle.crib_play.specs.declared.turns.Turn.TheVariants as turns
use Rattle.crib_play.specs.History.{Event, Own, Theirs}
use Rattle.crib_problem.specs.Setup.{Setup, IsSetup}
use Rattle.crib_problem.proofs.StartLemmas.{hold_is_card}
use Rattle.crib_plan.specs.declared.plan.Node.{Node}
use Rattle.crib_plan.specs.Nodes.{ArePlan, most_nodes}
use Rattle.crib_know.specs.Knowledge.{asked_now, played_events}
use Rattle.crib_search.specs.Trees.{Tree, Finish, Plays, Sees, Branches, NoBranch, Branch, branches_of, trees_of, same_tree, is_finish, is_play}
use Rattle.crib_search.specs.Trees.{joined_tree_from, joined_tree, trees_with, trees_after_walk, trees_after_walks, plan_of_tree}
use Rattle.crib_search.specs.Private.Nodes.{IsWhole, AreWhole}
use Rattle.crib_search.specs.Finder.{BranchFinds, ExceedsLimit, Finds, FindsFor, Found, IsFound, OwnerFinds, letters, options}
use Rattle.crib_search.proofs.FoundBySide.{finds_of_tree, opponent_some, tries_some}
use Rattle.crib_search.proofs.NumberedNodes.{AreFine, IsFine, nodes_from, plan_count}
use Rattle.crib_search.proofs.Options.{option_is}
use Rattle.crib_search.proofs.TreeWalks.{is_in, walk_closed}

-- ---- trees whose plays are cards and whose looks have fourteen branches
abbrev pub AllWhole : List Tree → Type 0
AllWhole trees = AllByRecursion IsWhole trees

-- ---- a tree that joins others
branches_whole : (trees : List Tree) → AllWhole trees → AreWhole (branches_of trees)
branches_whole [] all = tt
branches_whole (tree ∷ trees) all = (all.0, branches_whole trees all.1)

branches_count : (trees : List Tree) → length (trees_of (branches_of trees)) ≡ length trees
branches_count [] = refl
branches_count (tree ∷ trees) = ap suc (branches_count trees)

joined_from_whole : (all some : List Tree) → AllWhole all → length all ≡ 14 → AllWhole some → IsWhole (joined_tree_from all some)
joined_from_whole all [] are count some_are = tt
joined_from_whole all (tree ∷ trees) are count some_are =
    cond_both (is_play tree && list_all (same_tree tree) trees) tree (Sees (branches_of all)) IsWhole (λ same. some_are.0)
    (λ apart. (branches_count all ∙ count, branches_whole all are))

pub joined_whole : (trees : List Tree) → AllWhole trees → length trees ≡ 14 → IsWhole (joined_tree trees)
joined_whole trees all count =
    joined_from_whole trees (filter (λ tree. not (is_finish tree)) trees) all count
    (recursion_from_All IsWhole _ (All-filter (λ tree. not (is_finish tree)) IsWhole trees (All-from_recursion IsWhole trees all)))

-- ---- what is found
module _ (problem : Setup) (setup : IsSetup problem) where
  -- each tree that is found is whole
  abbrev AllFound : Found → Type 0
  AllFound finds = (history : List Event) (tree : Tree) → finds history (Some tree) → IsWhole tree

  owner_whole : (finds : Found) → AllFound finds → (history : List Event) (cards : List ℕ) → options problem history ≡ cards → (tree : Tree) →
      OwnerFinds finds history cards (Some tree) → IsWhole tree
  owner_whole finds all history [] same tree found = all (Own move.Go ∷ history) tree found
  owner_whole finds all history (first ∷ cards) same tree found =
      let tried = tries_some finds history (first ∷ cards) tree found in
      let option = option_is problem history tried.0 (ap (λ (xs : List ℕ). has xs tried.0) same ∙ tried.2) in
      rw tried.4 (hold_is_card problem setup tried.0 option.held, all (Own (move.Card tried.0) ∷ history) tried.1 tried.3)

  all_branches : (finds : Found) → AllFound finds → (history : List Event) (shown : List Letter) (trees : List Tree) →
      AllZip (BranchFinds finds problem history) shown trees → AllWhole trees × (length trees ≡ length shown)
  all_branches finds all history [] [] zip = (tt, refl)
  all_branches finds all history (letter ∷ shown) (tree ∷ trees) zip =
      let rest = all_branches finds all history shown trees zip.1 in
      let branch : IsWhole tree = elim zip.0 [ inl found ↦ all (Theirs letter ∷ history) tree found.1 | inr none ↦ rw none.1 tt ] in
      ((branch, rest.0), ap suc rest.1)
  all_branches finds all history shown trees zip = absurd zip

  side_whole : (turn : Turn) (finds : Found) → AllFound finds → (history : List Event) (tree : Tree) → FindsFor turn finds problem history (Some tree) →
      IsWhole tree
  side_whole turns.Over finds all history tree (inl reached) = let end : tree ≡ Finish = cc (reached.1) in rw end tt
  side_whole turns.Over finds all history tree (inr none) = absurd (cc (none.1))
  side_whole turns.Owner finds all history tree found = owner_whole finds all history (options problem history) refl tree found
  side_whole turns.Opponent finds all history tree found =
      let joins = opponent_some finds problem history tree found in
      let branches = all_branches finds all history letters joins.0 joins.1 in
      rw joins.2 (joined_whole joins.0 branches.0 branches.1)

  found_whole : (more : ℕ) → AllFound (λ history found. Finds more problem history found)
  found_whole zero history tree finds = absurd finds
  found_whole (suc more) history tree finds =
      side_whole (asked_now problem history) (λ further after. Finds more problem further after) (found_whole more) history tree finds

-- ---- the trees that a walk leaves
leave_fine : (tree : Tree) (before inside : List Tree) → IsFine tree → AreFine before → AreFine inside → AreFine (trees_with tree before inside)
leave_fine tree before inside fine old new = cond_both (is_in tree before) before (tree ∷ inside) AreFine (λ there. old) (λ fresh. (fine, new))

mutual
  walk_fine : (tree : Tree) (before : List Tree) → IsWhole tree → AreFine before → AreFine (trees_after_walk tree before)
  walk_fine Finish before whole fine = fine
  walk_fine (Plays card next) before whole fine =
      leave_fine (Plays card next) before (trees_after_walk next before) whole.0 fine (walk_fine next before whole.1 fine)
  walk_fine (Sees branches) before whole fine =
      leave_fine (Sees branches) before (trees_after_walks branches before) whole.0 fine (walks_fine branches before whole.1 fine)

  walks_fine : (branches : Branches) (before : List Tree) → AreWhole branches → AreFine before → AreFine (trees_after_walks branches before)
  walks_fine NoBranch before whole fine = fine
  walks_fine (Branch tree branches) before whole fine = walks_fine branches (trees_after_walk tree before) whole.1 (walk_fine tree before whole.0 fine)

-- ---- the plan
pub tree_plan : (tree : Tree) → IsWhole tree → length (plan_of_tree tree) ≤ most_nodes → ArePlan (plan_of_tree tree)
tree_plan tree whole few =
    let all = trees_after_walk tree [] in
    let closed = walk_closed tree in
    (few, nodes_from all (length (plan_of_tree tree)) (plan_count all all closed) [] all closed closed refl (walk_fine tree [] whole tt))

pub found_plan : (problem : Setup) (plan : List Node) → IsSetup problem → IsFound problem (Some plan) → length plan ≤ most_nodes → ArePlan plan
found_plan problem plan setup (None, finds, e) few = absurd cc
found_plan problem plan setup (Some tree, finds, e) few =
    let same : plan ≡ plan_of_tree tree = cc in
    let whole = found_whole problem setup 30 (played_events problem) tree (finds_of_tree problem (Some tree) finds) in
    rw same (tree_plan tree whole (rw same at few))

-- the same, if no plan that is found has more nodes than a plan may have
pub plan_within : (problem : Setup) (plan : List Node) → IsSetup problem → IsFound problem (Some plan) → ¬ ExceedsLimit problem most_nodes → ArePlan plan
plan_within problem plan setup found small =
    found_plan problem plan setup found (elim (cases_lt most_nodes (length plan)) [
      | inl more ↦ absurd (small (plan, found, more))
      | inr few ↦ few
    ])
