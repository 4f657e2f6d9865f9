-- Worked examples of plans as trees.
use Rattle.std.specs.Prelude.{◌≡◌, refl, ℕ, [], ◌∷◌, List, map, true, false}
use Rattle.crib_cards.specs.Cards.{rank_of}
use Rattle.crib_cards.specs.declared.sides.Side.TheVariants.{Owner, Opponent}
use Rattle.crib_plan.specs.declared.plan.Next.TheVariants.{End, To}
use Rattle.crib_plan.specs.declared.plan.Node.TheVariants.{Play, See}
use Rattle.crib_problem.specs.declared.problem.Version.TheVariants.{Two}
use Rattle.crib_problem.specs.Setup.{IsSetup, Setup}
use Rattle.crib_problem.proofs.ExampleProblems.{after_tens, level, plays}
use Rattle.crib_plan.specs.declared.plan.Node.{Node}
use Rattle.crib_sure.specs.Sure.{IsSure}
use Rattle.crib_search.specs.Finder.{one_of_each_rank}
use Rattle.crib_search.specs.Trees.{Tree, Finish, NoBranch, Plays, Sees, branches_of, is_play, joined_tree, trees_with, trees_after_walk}
use Rattle.crib_search.specs.Winnable.{IsWinnable, IsWinnableAfter, after_card}
use Rattle.crib_search.specs.Trees.{is_finish, nodes_for, number_of, place_of_tree, plan_of_tree, same_tree, trees_of}

-- branches that are the end, except those of the ace, the two and the go
abbrev after : Tree → Tree → Tree → List Tree
after ace two go =
    ace ∷ two ∷ Finish ∷ Finish ∷ Finish ∷ Finish ∷ Finish ∷ Finish ∷ Finish ∷ Finish ∷ Finish ∷ Finish ∷ Finish ∷ go ∷ []

-- the two of clubs, the two of diamonds, and then the end
abbrev clubs : Tree
clubs = Plays 4 Finish

abbrev diamonds : Tree
diamonds = Plays 5 Finish

-- branches that are the same look
abbrev look : Tree
look = Sees (branches_of (after clubs diamonds Finish))

-- if each branch is the end, the joined tree is the end. A play that is the same for all letters needs no look
pub joined_without_a_look : map joined_tree (after Finish Finish Finish ∷ after Finish clubs Finish ∷ after clubs Finish clubs ∷ [])
    ≡ Finish ∷ clubs ∷ clubs ∷ []
joined_without_a_look = refl

-- two different plays need a look, and a card that goes on in two ways is two different plays. Branches that are the same look are not joined into it: a new
-- look comes before it
abbrev need_a_look : List (List Tree)
need_a_look = after clubs diamonds clubs ∷ after clubs (Plays 4 diamonds) Finish ∷ after look look look ∷ []

pub joined_by_a_look : map joined_tree need_a_look ≡ map (λ trees. Sees (branches_of trees)) need_a_look
joined_by_a_look = refl

-- the ace and the go lead to the same play of the two of clubs; the two leads to the two of diamonds; both go on with the two of hearts
abbrev hearts : Tree
hearts = Plays 6 Finish

abbrev shared : Tree
shared = Sees (branches_of (after (Plays 4 hearts) (Plays 5 hearts) (Plays 4 hearts)))

-- the walk leaves the two of hearts first, and once; it leaves the look last
pub left_in_order : trees_after_walk shared [] ≡ shared ∷ Plays 5 hearts ∷ Plays 4 hearts ∷ hearts ∷ []
left_in_order = refl

-- so the look is node 0, and the two of hearts is node 3. A tree that is the end has no node
pub plans_of_trees : map plan_of_tree (shared ∷ Finish ∷ [])
    ≡ (See (To 2 ∷ To 1 ∷ End ∷ End ∷ End ∷ End ∷ End ∷ End ∷ End ∷ End ∷ End ∷ End ∷ End ∷ To 2 ∷ [])
    ∷ Play 5 (To 3) ∷ Play 4 (To 3) ∷ Play 6 End ∷ []) ∷ [] ∷ []
plans_of_trees = refl

-- the place of a look is its index in the list
pub place_of_a_look : place_of_tree (clubs ∷ diamonds ∷ look ∷ []) look ≡ To 2
place_of_a_look = refl

-- a tree that the walk left before is not left again, and only the trees before its walk are asked for it
pub left_once : trees_with clubs (clubs ∷ []) (diamonds ∷ clubs ∷ []) ∷ trees_with clubs (diamonds ∷ []) (clubs ∷ diamonds ∷ []) ∷ []
    ≡ (clubs ∷ []) ∷ (clubs ∷ clubs ∷ diamonds ∷ []) ∷ []
left_once = refl

-- the trees of some branches are those that they were made of
pub trees_in_order : trees_of (branches_of (clubs ∷ Finish ∷ diamonds ∷ clubs ∷ [])) ≡ clubs ∷ Finish ∷ diamonds ∷ clubs ∷ []
trees_in_order = refl

pub kinds_of_trees : map is_finish (Finish ∷ clubs ∷ look ∷ []) ∷ map is_play (Finish ∷ clubs ∷ look ∷ []) ∷ []
    ≡ (true ∷ false ∷ false ∷ []) ∷ (false ∷ true ∷ false ∷ []) ∷ []
kinds_of_trees = refl

pub numbers_in_a_list : number_of clubs [] ∷ map (λ tree. number_of tree (look ∷ clubs ∷ diamonds ∷ clubs ∷ [])) (look ∷ clubs ∷ diamonds ∷ hearts ∷ [])
    ≡ 0 ∷ 0 ∷ 1 ∷ 2 ∷ 4 ∷ []
numbers_in_a_list = refl

-- a list with the tree of index 2 behind both others
abbrev three_trees : List Tree
three_trees = shared ∷ clubs ∷ diamonds ∷ []

-- an ace and a two lead to 2C, and a go to 2D, which is the last tree of the list
pub nodes_of_trees : map (nodes_for three_trees) (Sees (branches_of (after clubs clubs diamonds)) ∷ Plays 9 diamonds ∷ Plays 9 Finish ∷ Finish ∷ [])
    ≡ (See (To 1 ∷ To 1 ∷ End ∷ End ∷ End ∷ End ∷ End ∷ End ∷ End ∷ End ∷ End ∷ End ∷ End ∷ To 2 ∷ []) ∷ [])
    ∷ (Play 9 (To 2) ∷ []) ∷ (Play 9 End ∷ []) ∷ [] ∷ []
nodes_of_trees = refl

-- of two twos and a four, the finder tries the first two and the four. 3C 2D 3D 4C 2C 3H: of each rank the first card
pub first_of_each_rank : map one_of_each_rank ((5 ∷ 12 ∷ 4 ∷ []) ∷ (8 ∷ 5 ∷ 9 ∷ 12 ∷ 4 ∷ 10 ∷ []) ∷ []) ≡ (5 ∷ 12 ∷ []) ∷ (8 ∷ 5 ∷ 12 ∷ []) ∷ []
first_of_each_rank = refl

-- plays of another card, and plays that go on otherwise, are other trees, and so is each other tree than a look without branches
pub other_trees : map (same_tree diamonds) (clubs ∷ diamonds ∷ hearts ∷ [])
    ∷ map (same_tree (Plays 4 diamonds)) (clubs ∷ Plays 4 diamonds ∷ Plays 4 clubs ∷ Plays 5 diamonds ∷ [])
    ∷ map (same_tree (Sees NoBranch)) (Sees NoBranch ∷ look ∷ Finish ∷ []) ∷ []
    ≡ (false ∷ true ∷ false ∷ []) ∷ (false ∷ true ∷ false ∷ false ∷ []) ∷ (true ∷ false ∷ false ∷ []) ∷ []
other_trees = refl

-- a plan without nodes is one to win with if it is sure, and without a sure plan there is none
pub plans_to_win_with : (IsSure level [] → IsWinnable level) × (((plan : List Node) → IsSure level plan → ⊥) → IsWinnable level → ⊥)
plans_to_win_with = ((λ sure. record { plan = []; sure = sure }), λ none is. none is.plan is.sure)

-- the opponent's next card is a turn of the opening, which version 2 has
pub openings_with_a_card :
    (after_card level 37 ≡ record level { version = Two; played = plays Opponent 37 ∷ [] })
    × (after_card after_tens 49 ≡ record after_tens { played = plays Owner 36 ∷ plays Opponent 37 ∷ plays Opponent 49 ∷ [] })
openings_with_a_card = (refl, refl)

-- no plan is sure after JC, so none is after all jacks; but if no jack may come next, any plan is
pub no_plan_after_a_jack : (problem : Setup) → IsSetup (after_card problem 40) → ((plan : List Node) → IsSure (after_card problem 40) plan → ⊥) →
    IsWinnableAfter problem 11 → ⊥
no_plan_after_a_jack problem setup none is = none is.plan (is.sure 40 refl setup)

pub no_jack_comes_next : (problem : Setup) → ((card : ℕ) → rank_of card ≡ 11 → IsSetup (after_card problem card) → ⊥) → IsWinnableAfter problem 11
no_jack_comes_next problem none = record { plan = []; sure = λ card jack setup. absurd (none card jack setup) }
