-- Worked examples of the finder's steps, and of the plan that it finds for two holes. The opening is TC TD 9C, which makes 29. The owner knows all twos, and
-- holds 2C and AC.
use Rattle.std.proofs.Common.{arith, ◌≡◌, refl, inl, inr, ℕ, ◌<◌, ◌==◌, length, true, false, List, [], ◌∷◌, ◌++◌, Option, Some, None, ltb, map, replicate}
use Rattle.std.specs.List.{AllZip, list_all}
use Rattle.std.proofs.lemmas.Bool.{and_parts, ltb-true}
use Rattle.std.specs.Prelude.{◌⊎◌, if◌then◌else◌, MatchOption}
use Rattle.crib_cards.specs.Sets.{set_where}
use Rattle.crib_cards.specs.declared.letters.Letter.{Letter}
use Rattle.crib_cards.specs.declared.letters.Letter.TheVariants.{Seen, Go}
use Rattle.crib_cards.specs.declared.moves.Move.TheVariants as move
use Rattle.crib_play.specs.declared.turns.Turn.TheVariants as turns
use Rattle.crib_play.specs.History.{Event, Own, Theirs}
use Rattle.crib_show.specs.Show.{hand_points, crib_points}
use Rattle.crib_plan.specs.declared.plan.Next.TheVariants.{End, To}
use Rattle.crib_plan.specs.declared.plan.Node.{Node}
use Rattle.crib_plan.specs.declared.plan.Node.TheVariants.{Play, See}
use Rattle.crib_know.specs.Knowledge.{played_events}
use Rattle.crib_know.specs.Hidden.{CanShow}
use Rattle.crib_problem.specs.declared.problem.Goal.TheVariants.{Holes}
use Rattle.crib_problem.proofs.ExampleProblems.{level, level_deal}
use Rattle.crib_sure.proofs.ExampleOpening.{at_29}
use Rattle.crib_sure.specs.Shows.{IsReachedBehind, full_behind}
use Rattle.crib_search.specs.Trees.{Tree, Finish, Plays, Sees, branches_of, joined_tree, same_tree, plan_of_tree}
use Rattle.crib_search.specs.Finder.{Found, Tries, OwnerFinds, LacksBranch, BranchFinds, FindsFor, FindsTree, Finds, IsFound}
use Rattle.crib_search.specs.Finder.{ExceedsLimit, options, letters}
use Rattle.crib_search.specs.declared.finder.Found.TheVariants as found
use Rattle.crib_search.specs.declared.finder.SearchFault.TheVariants.{TooLarge, NoMemory}
use Rattle.crib_search.specs.Answer.{plan_found, search_fault_number}
use Rattle.crib_show.specs.Outcome.{outcome_from}

-- ---- answers
pub plans_that_are_found : (A : Type 0) → map (plan_found {A = A}) (found.Plan (Play 4 End ∷ []) ∷ found.None ∷ []) ≡ Some (Play 4 End ∷ []) ∷ None ∷ []
plans_that_are_found A = refl

pub numbers_of_faults : map search_fault_number (TooLarge ∷ NoMemory ∷ []) ≡ 50 ∷ 11 ∷ []
numbers_of_faults = refl

-- ---- trees
abbrev clubs : Tree
clubs = Plays 4 Finish

abbrev look : Tree
look = Sees (branches_of (clubs ∷ []))

abbrev two_branches : Tree
two_branches = Sees (branches_of (clubs ∷ clubs ∷ []))

-- a look is itself, and not the end, a card, a look with another card, or one with one branch more
pub same_as_a_look : map (same_tree look) (Finish ∷ clubs ∷ look ∷ Sees (branches_of (Plays 5 Finish ∷ [])) ∷ two_branches ∷ [])
    ≡ false ∷ false ∷ true ∷ false ∷ false ∷ []
same_as_a_look = refl

-- neither is the end a look, a card the end, or a look one with a branch less or with another second branch
pub other_trees : same_tree Finish look ∷ same_tree clubs Finish ∷ map (same_tree two_branches) (look ∷ Sees (branches_of (clubs ∷ look ∷ [])) ∷ [])
    ≡ false ∷ false ∷ false ∷ false ∷ []
other_trees = refl

-- ---- letters, and the owner's cards that he may try
pub ranks_and_then_a_go : letters
    ≡ Seen 1 ∷ Seen 2 ∷ Seen 3 ∷ Seen 4 ∷ Seen 5 ∷ Seen 6 ∷ Seen 7 ∷ Seen 8 ∷ Seen 9 ∷ Seen 10 ∷ Seen 11 ∷ Seen 12 ∷ Seen 13 ∷ Go ∷ []
ranks_and_then_a_go = refl

-- after his own TC, which no other rank of the hold is, he tries the other three, and so after a ten of the opponent, where each of them fits. At 29, after
-- a go, only 2C fits. A two of the opponent makes 31, and the eight fits after 2C and a five
pub cards_to_try : map (options level) ((Own (move.Card 36) ∷ []) ∷ (Theirs (Seen 10) ∷ Own (move.Card 36) ∷ [])
    ∷ (Theirs Go ∷ Own (move.Card 32) ∷ Theirs (Seen 10) ∷ Own (move.Card 36) ∷ [])
    ∷ (Theirs (Seen 5) ∷ Own (move.Card 4) ∷ Theirs (Seen 2) ∷ Own (move.Card 32) ∷ Theirs (Seen 10) ∷ Own (move.Card 36) ∷ []) ∷ [])
    ≡ (32 ∷ 4 ∷ 28 ∷ []) ∷ (32 ∷ 4 ∷ 28 ∷ []) ∷ (4 ∷ []) ∷ (28 ∷ []) ∷ []
cards_to_try = refl

-- ---- one step, for given answers further on: none after 2C or after an ace of the opponent, 2C after a go of his, and otherwise the end
abbrev answer : List Event → Option Tree
answer [] = None
answer (Own (move.Card card) ∷ history) = if card == 4 then None else Some Finish
answer (Own move.Go ∷ history) = Some look
answer (Theirs (Seen rank) ∷ history) = if rank == 1 then None else Some Finish
answer (Theirs Go ∷ history) = Some clubs

abbrev given : Found
given history it = it ≡ answer history

abbrev a_go : List Event
a_go = Theirs Go ∷ []

-- without a card to try, none is found, and no tree
pub nothing_to_try : Tries given a_go [] None × (Tries given a_go [] (Some Finish) → ⊥)
nothing_to_try = (refl, λ tries. cc)

-- none is found after 2C, so 2D is played. 2D and 2H both lead to the end, so the first one is played. If no card fits, the owner says go
pub first_that_leads : Tries given a_go (4 ∷ 5 ∷ []) (Some (Plays 5 Finish)) × OwnerFinds given a_go (5 ∷ 6 ∷ []) (Some (Plays 5 Finish))
    × OwnerFinds given a_go [] (Some look)
first_that_leads = ((None, refl, (Some Finish, refl, refl)), (Some Finish, refl, refl), refl)

pub a_card_that_leads_is_played : Tries given a_go (5 ∷ []) None → ⊥
a_card_that_leads_is_played (None, is, rest) = cc
a_card_that_leads_is_played (Some tree, is, rest) = cc

-- after 2D the end is found, so the answer is to play it. While a card fits, the owner tries it and says no go. At the first lead it is the owner's turn,
-- and each card of TC 9C 2C 8C fits
pub owner_tries : (found : Option Tree) →
    (Tries given a_go (5 ∷ []) found ≡ ((after : Option Tree) × (after ≡ Some Finish) × MatchOption after (found ≡ None) (λ tree. found ≡ Some (Plays 5 tree))))
    × (OwnerFinds given a_go (4 ∷ 5 ∷ []) found ≡ Tries given a_go (4 ∷ 5 ∷ []) found)
    × (FindsFor turns.Owner given level [] found ≡ Tries given [] (36 ∷ 32 ∷ 4 ∷ 28 ∷ []) found)
owner_tries found = (refl, refl, refl)

-- at 29 an ace can be shown, and none is found after it
abbrev three_events : List Event
three_events = played_events at_29

-- the opponent holds TD AD 3C 3D, or TD and three threes
ace_shown : CanShow at_29 three_events (Seen 1)
unfolding set_where
ace_shown = (
  record { hold = 37 ∷ 1 ∷ 8 ∷ 9 ∷ []; throw = 10 ∷ 11 ∷ [] },
  (assumption, (move.Card 1 ∷ move.Card 32 ∷ move.Card 37 ∷ move.Card 36 ∷ [], assumption, refl)),
)

go_shown : CanShow at_29 three_events Go
unfolding set_where
go_shown = (
  record { hold = 37 ∷ 8 ∷ 9 ∷ 10 ∷ []; throw = 1 ∷ 11 ∷ [] },
  (assumption, (move.Go ∷ move.Card 32 ∷ move.Card 37 ∷ move.Card 36 ∷ [], assumption, refl)),
)

-- so none is found
pub none_found_after_a_look : FindsFor turns.Opponent given at_29 three_events None
none_found_after_a_look = inl ((Seen 1, ace_shown, refl), refl)

-- a go can be shown, and the play of 2C is found after it
pub branch_of_a_go : BranchFinds given at_29 three_events Go clubs
branch_of_a_go = inl (go_shown, refl)

-- the branch of a letter that can't be shown is the end, and nothing else
pub hidden_branch_is_the_end : ¬ CanShow at_29 three_events (Seen 3) →
    BranchFinds given at_29 three_events (Seen 3) Finish × (BranchFinds given at_29 three_events (Seen 3) clubs → ⊥)
hidden_branch_is_the_end none = (inr (none, refl), λ finds. elim finds [ inl shown ↦ none shown.0 | inr hidden ↦ let is = hidden.1 in cc ])

-- none is found only if a branch is lacking, and a tree that is found joins its branches
pub none_lacks_a_branch : FindsFor turns.Opponent given at_29 three_events None → LacksBranch given at_29 three_events
none_lacks_a_branch (inl lacks) = lacks.0
none_lacks_a_branch (inr finds) = absurd (let is = finds.2 in cc)

pub tree_joins_branches : (tree : Tree) → FindsFor turns.Opponent given at_29 three_events (Some tree) →
    (branches : List Tree) × AllZip (BranchFinds given at_29 three_events) letters branches × (Some tree ≡ Some (joined_tree branches))
tree_joins_branches tree (inl lacks) = absurd (let is = lacks.1 in cc)
tree_joins_branches tree (inr finds) = finds

-- if a deal is done, the end is found where the owner has reached his goal, and otherwise none
pub end_where_reached : IsReachedBehind level [] → FindsFor turns.Over given level [] (Some Finish) × (FindsFor turns.Over given level [] None → ⊥)
end_where_reached reached = (inl (reached, refl), λ finds. elim finds [ inl is ↦ let end = is.1 in cc | inr is ↦ is.0 reached ])

pub none_where_not_reached : ¬ IsReachedBehind level [] → FindsFor turns.Over given level [] None × (FindsFor turns.Over given level [] (Some Finish) → ⊥)
none_where_not_reached short = (inr (short, refl), λ finds. elim finds [ inl is ↦ short is.0 | inr is ↦ let end = is.1 in cc ])

-- at the first lead, some deal does not have the outcome Reached. After TC TD 9C the scores are 0 to 2. The owner's hand counts 9, so he is two holes short
-- of eleven
pub not_reached_yet : (IsReachedBehind level [] → ⊥) × (IsReachedBehind (record level { goal = Holes 11 }) three_events → ⊥)
unfolding set_where outcome_from hand_points crib_points
not_reached_yet = (
  λ reached. (let short = reached (record { hold = 37 ∷ 49 ∷ 50 ∷ 47 ∷ []; throw = 18 ∷ 25 ∷ [] }) (assumption, ([], tt, refl)) in cc),
  λ reached. (let short = reached level_deal (assumption, (move.Card 32 ∷ move.Card 37 ∷ move.Card 36 ∷ [], assumption, refl)) in cc),
)

pub scores_behind_three : (full_behind level three_events level_deal).scores ≡ record { owner = 0; opponent = 2 }
scores_behind_three = refl

-- ---- steps: none is left at 0, and after the opening of three turns it is the opponent's turn
pub steps_by_bound : (found : Option Tree) → (Finds 0 level [] found ≡ ⊥)
    × (Finds 1 at_29 three_events found ≡ FindsFor turns.Opponent (λ further after. Finds 0 at_29 further after) at_29 three_events found)
    × (FindsTree at_29 found ≡ FindsFor turns.Opponent (λ further after. Finds 29 at_29 further after) at_29 three_events found)
unfolding FindsTree
steps_by_bound found = (refl, refl, refl)

-- ---- the plan: AC after an ace, 2C after a go. Each is the first card of the hold that leads to the goal
abbrev ace_or_two : Tree
ace_or_two = Sees (branches_of (Plays 0 Finish ∷ replicate 12 Finish ++ Plays 4 Finish ∷ []))

pub tree_of_two_cards : ((rank : ℕ) → 1 < rank → ¬ CanShow at_29 three_events (Seen rank)) → FindsTree at_29 (Some ace_or_two)
unfolding FindsTree outcome_from
tree_of_two_cards none = inr (
  Plays 0 Finish ∷ replicate 12 Finish ++ Plays 4 Finish ∷ [],
  (
    inl (ace_shown, (Some Finish, inl (λ dealt agrees. refl, refl), refl)),
    ends (2 ∷ 3 ∷ 4 ∷ 5 ∷ 6 ∷ 7 ∷ 8 ∷ 9 ∷ 10 ∷ 11 ∷ 12 ∷ 13 ∷ []) refl,
  ),
  refl,
)
  where
    -- each rank that can't be shown is the end, and then is the go
    ends : (ranks : List ℕ) → list_all (λ rank. ltb 1 rank) ranks ≡ true →
        AllZip (BranchFinds (λ further after. Finds 29 at_29 further after) at_29 three_events) (map Seen ranks ++ Go ∷ [])
        (replicate (length ranks) Finish ++ Plays 4 Finish ∷ [])
    ends [] high = (inl (go_shown, (Some Finish, inl (λ dealt agrees. refl, refl), refl)), tt)
    ends (rank ∷ ranks) high =
        let parts = and_parts (ltb 1 rank) (list_all (λ rank. ltb 1 rank) ranks) high in
        (inr (none rank (ltb-true 1 rank parts.0), refl), ends ranks parts.1)

-- the look is node 0, and the card that the walk leaves last is node 1
abbrev ace_or_two_nodes : List Node
ace_or_two_nodes = See (To 2 ∷ replicate 12 End ++ To 1 ∷ []) ∷ Play 4 End ∷ Play 0 End ∷ []

-- three nodes are more than two
pub plan_of_two_cards : ((rank : ℕ) → 1 < rank → ¬ CanShow at_29 three_events (Seen rank)) →
    IsFound at_29 (Some ace_or_two_nodes) × ExceedsLimit at_29 2
plan_of_two_cards none = (found, (ace_or_two_nodes, found, omega arith))
  where
    found : IsFound at_29 (Some ace_or_two_nodes)
    found = (Some ace_or_two, tree_of_two_cards none, refl)

-- without a tree there is no plan
pub a_plan_has_a_tree : (plan : List Node) → ((tree : Tree) → FindsTree at_29 (Some tree) → Some plan ≡ Some (plan_of_tree tree) → ⊥) →
    IsFound at_29 (Some plan) → ⊥
a_plan_has_a_tree plan none (None, finds, is) = cc
a_plan_has_a_tree plan none (Some tree, finds, is) = none tree finds is

-- only a plan with more nodes than a limit exceeds it
pub more_nodes_than_the_limit : (limit : ℕ) → ((plan : List Node) → IsFound at_29 (Some plan) → limit < length plan → ⊥) → ExceedsLimit at_29 limit → ⊥
more_nodes_than_the_limit limit none exceeds = none exceeds.0 exceeds.1 exceeds.2

-- ---- what a step finds is what is found after each of its turns
pub a_go_that_is_shown : (finds : Found) (tree : Tree) → CanShow at_29 three_events Go →
    (finds (Theirs Go ∷ three_events) (Some tree) → BranchFinds finds at_29 three_events Go tree)
    × (finds (Theirs Go ∷ three_events) None → LacksBranch finds at_29 three_events)
a_go_that_is_shown finds tree can = (λ is. inl (can, is), λ is. (Go, can, is))

pub second_card_after_a_lack : (finds : Found) → finds (Own (move.Card 4) ∷ three_events) None → finds (Own (move.Card 0) ∷ three_events) (Some Finish) →
    Tries finds three_events (4 ∷ 0 ∷ []) (Some (Plays 0 Finish))
second_card_after_a_lack finds lacks is = (None, lacks, (Some Finish, is, refl))

-- each step at any history: of the owner, if cards fit and if none does, of the opponent, and of nobody
pub each_step : (finds : Found) (history : List Event) (found : Option Tree) (tree : Tree) →
    (FindsFor turns.Owner finds level history found ≡ OwnerFinds finds history (options level history) found)
    × (OwnerFinds finds three_events (4 ∷ 0 ∷ []) found ≡ Tries finds three_events (4 ∷ 0 ∷ []) found)
    × (OwnerFinds finds three_events [] found ≡ finds (Own move.Go ∷ three_events) found)
    × (FindsFor turns.Opponent finds level history found
    ≡ ((LacksBranch finds level history × (found ≡ None))
    ⊎ ((branches : List Tree) × AllZip (BranchFinds finds level history) letters branches × (found ≡ Some (joined_tree branches)))))
    × (LacksBranch finds level history ≡ ((letter : Letter) × CanShow level history letter × finds (Theirs letter ∷ history) None))
    × (BranchFinds finds level history Go tree
    ≡ ((CanShow level history Go × finds (Theirs Go ∷ history) (Some tree)) ⊎ (¬ CanShow level history Go × (tree ≡ Finish))))
    × (FindsFor turns.Over finds level history found
    ≡ ((IsReachedBehind level history × (found ≡ Some Finish)) ⊎ (¬ IsReachedBehind level history × (found ≡ None))))
each_step finds history found tree = (refl, refl, refl, refl, refl, refl, refl)
