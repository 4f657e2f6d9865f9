-- Worked examples of what comes next, as text. A card is a number below 52: 4 is 2C, 5 is 2D.
use Rattle.std.proofs.Common.{◌≡◌, [], ◌∷◌, map, codes, refl}
use Rattle.std.specs.Fmt.{digits}
use Rattle.crib_cards.specs.declared.sides.Side.TheVariants.{Owner, Opponent}
use Rattle.crib_problem.proofs.ExampleProblems.{after_two, four_twos, plays}
use Rattle.crib_plan.specs.declared.plan.Next.TheVariants.{End, To}
use Rattle.crib_plan.specs.declared.plan.Node.TheVariants.{Play as PlayNode}
use Rattle.crib_plan_sheet.specs.PlanStuck.{stuck_text, stuck_words}
use Rattle.crib_run.specs.declared.status.Status.TheVariants.{Yes, No}
use Rattle.crib_next.specs.declared.next.NextTurn.TheVariants.{Play, Go, Wait, Over, Stuck}
use Rattle.crib_sheet.specs.Next.{next_reply, next_status, next_text}

each_answer : map (next_text four_twos [] []) (Play 5 ∷ Go ∷ Wait ∷ Over ∷ [])
    ≡ codes "play 2D\n" ∷ codes "say go\n" ∷ codes "wait\n" ∷ codes "over\n" ∷ []
unfolding next_text
each_answer = refl

only_stuck_is_no : map next_status (Play 5 ∷ Go ∷ Wait ∷ Over ∷ Stuck ∷ []) ≡ Yes ∷ Yes ∷ Yes ∷ Yes ∷ No ∷ []
only_stuck_is_no = refl

no_node : next_text four_twos [] [] Stuck ≡ codes "stuck\nThe plan has no node.\n"
unfolding next_text stuck_text stuck_words
no_node = refl

-- the plan begins after the opening, and ends with its only card
one_card : next_text after_two (PlayNode 5 End ∷ []) (plays Owner 5 ∷ plays Opponent 1 ∷ []) Stuck ≡ codes "stuck\nThe plan ends at node 0.\n"
unfolding next_text stuck_text stuck_words digits
one_card = refl

-- the two of the opening is held no more
a_card_of_the_opening : next_text after_two (PlayNode 4 End ∷ []) [] Stuck ≡ codes "stuck\nNode 0 states 2C, which you don't hold.\n"
unfolding next_text stuck_text stuck_words digits
a_card_of_the_opening = refl

-- a plan of two cards ends with the second one
two_cards : next_reply after_two (PlayNode 5 (To 1) ∷ PlayNode 6 End ∷ []) (plays Owner 5 ∷ plays Opponent 1 ∷ plays Owner 6 ∷ plays Opponent 2 ∷ []) Stuck
    ≡ record { output = codes "stuck\nThe plan ends at node 1.\n"; status = No }
unfolding next_text stuck_text stuck_words digits
two_cards = refl
