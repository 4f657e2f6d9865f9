-- Worked examples of the lines of turns that may come next, and of when they are right.
use Rattle.std.proofs.Common.{◌≡◌, ◌⊎◌, ◌∙◌, arith, inl, inr, ℕ, true, false, List, [], ◌∷◌, ◌++◌, length, Option, None, Some, codes, refl, sym, ap, subst}
use Rattle.std.specs.Fmt.{digits}
use Rattle.crib_cards.specs.declared.sides.Side.TheVariants.{Owner, Opponent}
use Rattle.crib_cards.specs.declared.moves.Move.TheVariants as move
use Rattle.crib_cards.specs.Sets.{set_where}
use Rattle.crib_cards.specs.declared.moves.Act.{Act}
use Rattle.crib_problem.proofs.ExampleProblems.{after_two, close_to_lost, four_twos, plays}
use Rattle.crib_problem.specs.declared.problem.Version.TheVariants.{Two}
use Rattle.crib_problem.specs.declared.problem.Goal.TheVariants.{Win, Holes, Stop}
use Rattle.crib_problem.specs.Setup.{IsSetup, Setup}
use Rattle.crib_plan.specs.declared.plan.Node.{Node}
use Rattle.crib_beaten.specs.declared.rows.Rows.{Rows}
use Rattle.crib_leads.specs.Leads.{AreEntries, AreTheirs, IsTooLarge, own_turns as all_turns}
use Rattle.crib_search.specs.Finder.{ExceedsLimit}
use Rattle.crib_search.specs.Tried.{IsNeverStuck}
use Rattle.crib_plan.specs.declared.plan.Next.TheVariants.{End, To}
use Rattle.crib_plan.specs.declared.plan.Node.TheVariants.{Play}
use Rattle.crib_leads.specs.declared.leads.Lead.{Lead}
use Rattle.crib_plan_sheet.specs.PlanNow.{now_line, now_text}
use Rattle.crib_run.specs.Pieces.{other_score}
use Rattle.crib_leads.specs.declared.verdict.LeadVerdict.{LeadVerdict}
use Rattle.crib_leads.specs.declared.verdict.LeadVerdict.TheVariants.{Sure, Beaten, Reached, Missed}
use Rattle.crib_run.specs.declared.status.Status.TheVariants.{Yes, No}
use Rattle.crib_search.specs.Winnable.{IsWinnable}
use Rattle.crib_run.specs.Reply.{Reply}
use Rattle.crib_sheet.specs.Leads.{AreStops, AreStopsIf, HasLargePlan, HasLeads, IsBelow, SaysTried, below_text, to_stop, wants_stops}
use Rattle.crib_sheet.specs.declared.answer.leads.TriedPlan.{TriedPlan}
use Rattle.crib_sheet.specs.LeadsText.{begins_words, best_line, is_mostly_beaten, leads_status, leads_text, little_lines, own_line, own_lines, own_words}
use Rattle.crib_sheet.specs.LeadsText.{short_words, stop_figure, their_line, their_lines, their_name, tried_text}
use Rattle.crib_sheet.specs.PlanBeaten.{AreBeating, beating_text}

-- 8D and 2C of the owner, and 5C of the opponent, for itself and for its rank
abbrev own_lead : LeadVerdict → Lead
own_lead verdict = record { act = record { side = Owner; what = move.Card 29 }; is_rank = false; verdict = verdict }

abbrev two_lead : LeadVerdict → Lead
two_lead verdict = record { act = record { side = Owner; what = move.Card 4 }; is_rank = false; verdict = verdict }

abbrev their_lead : LeadVerdict → Lead
their_lead verdict = record { act = record { side = Opponent; what = move.Card 16 }; is_rank = true; verdict = verdict }

abbrev card_lead : LeadVerdict → Lead
card_lead verdict = record { act = record { side = Opponent; what = move.Card 16 }; is_rank = false; verdict = verdict }

-- ---- verdicts
own_verdicts : (own_words (Sure 0) ≡ codes "sure: nothing is left to decide") × (own_words (Sure 1) ≡ codes "sure, 1 node")
    × (own_words (Sure 12) ≡ codes "sure, 12 nodes") × (own_words Reached ≡ codes "sure: reaches the goal at once")
    × (own_words Missed ≡ codes "not sure; some deals miss the goal")
    × (own_words (Beaten 820 8200) ≡ codes "not sure; a plan fails with 820 of 8,200 deals")
unfolding digits
own_verdicts = (refl, refl, refl, refl, refl, refl)

their_verdicts : (short_words None (Sure 7) ≡ codes "sure") × (short_words None Reached ≡ codes "sure")
    × (short_words (Some (move.Card 16)) Missed ≡ codes "not sure; after 5C some deals miss the goal")
    × (short_words (Some (move.Card 16)) (Beaten 3 40) ≡ codes "not sure; after 5C a plan fails with 3 of 40 deals")
unfolding digits
their_verdicts = (refl, refl, refl, refl)

figures_to_stop : (stop_figure (Sure 7) ≡ codes "sure") × (stop_figure Reached ≡ codes "sure") × (stop_figure Missed ≡ codes "some")
    × (stop_figure (Beaten 8200 9000) ≡ codes "8,200")
unfolding digits
figures_to_stop = (refl, refl, refl, refl)

-- ---- lines
own_turns : own_lines (own_lead (Sure 12) ∷ own_lead (Beaten 3 40) ∷ []) [] ≡ codes "8D: sure, 12 nodes\n8D: not sure; a plan fails with 3 of 40 deals\n"
unfolding own_line digits
own_turns = refl

with_a_second_column :
    own_lines (own_lead (Beaten 3 40) ∷ own_lead Missed ∷ []) (own_lead (Sure 1) ∷ own_lead (Beaten 2 40) ∷ [])
    ≡ codes "8D: not sure; a plan fails with 3 of 40 deals; stop: sure\n8D: not sure; some deals miss the goal; stop: 2\n"
unfolding own_line digits
with_a_second_column = refl

their_turns : their_lines (their_lead (Beaten 3 40) ∷ card_lead (Beaten 2 40) ∷ their_lead (Sure 9) ∷ [])
    ≡ codes "It is their turn. After what they may play:\n"
    ++ codes "5: not sure; after 5C a plan fails with 3 of 40 deals\n5C: not sure; a plan fails with 2 of 40 deals\n5: sure\n"
unfolding their_line digits
their_turns = refl

no_turn_no_heading : their_lines [] ≡ []
no_turn_no_heading = refl

names_of_theirs : (their_name true (move.Card 16) ≡ codes "5") × (their_name false (move.Card 16) ≡ codes "5C") × (their_name false move.Go ≡ codes "go")
names_of_theirs = (refl, refl, refl)

-- half of the deals are not more than half
mostly : (is_mostly_beaten (own_lead (Beaten 5 10)) ≡ false) × (is_mostly_beaten (own_lead (Beaten 6 10)) ≡ true)
    × (is_mostly_beaten (own_lead (Sure 1)) ≡ false) × (is_mostly_beaten (own_lead Missed) ≡ true)
mostly = (refl, refl, refl, refl)

that_it_says_little : (little_lines (own_lead (Beaten 6 10) ∷ own_lead (Beaten 9 10) ∷ []) []
    ≡ codes "More than half of the deals beat each of them, so their order says little.\n")
    × (little_lines (own_lead (Beaten 6 10) ∷ own_lead (Beaten 5 10) ∷ []) [] ≡ []) × (little_lines (own_lead (Beaten 6 10) ∷ []) [] ≡ [])
    × (little_lines (own_lead (Beaten 5 10) ∷ own_lead (Beaten 6 10) ∷ []) [] ≡ [])
that_it_says_little = (refl, refl, refl, refl)

-- the best card to stop them is the first of equals, and none is named if half of the deals are against it
best_to_stop : (best_line (two_lead (Beaten 4 10) ∷ own_lead (Beaten 4 11) ∷ two_lead (Beaten 8 22) ∷ [])
    ≡ codes "To stop them, the fewest deals beat a plan after 8D.\n")
    × (best_line (two_lead (Sure 4) ∷ own_lead Missed ∷ own_lead Reached ∷ []) ≡ codes "To stop them, the fewest deals beat a plan after 2C.\n")
    × (best_line (own_lead (Beaten 9 10) ∷ two_lead (Beaten 5 10) ∷ []) ≡ []) × (best_line [] ≡ [])
best_to_stop = (refl, refl, refl, refl)

-- a card of the owner is enough, and all of the opponent's are needed
statuses : (leads_status (own_lead (Beaten 6 10) ∷ own_lead (Sure 1) ∷ []) [] ≡ Yes) × (leads_status (own_lead (Beaten 6 10) ∷ []) [] ≡ No)
    × (leads_status (own_lead (Sure 1) ∷ own_lead (Beaten 6 10) ∷ []) [] ≡ Yes)
    × (leads_status [] (their_lead (Sure 1) ∷ their_lead (Beaten 6 10) ∷ []) ≡ No)
    × (leads_status [] (their_lead (Beaten 6 10) ∷ their_lead (Sure 1) ∷ []) ≡ No) × (leads_status [] (their_lead Reached ∷ their_lead (Sure 1) ∷ []) ≡ Yes)
statuses = (refl, refl, refl, refl, refl, refl)

-- the lines of each side, that the figures say little, and the text below them
abbrev own_leads : List Lead
own_leads = own_lead (Beaten 6 10) ∷ own_lead (Beaten 9 10) ∷ []

abbrev stop_leads : List Lead
stop_leads = own_lead (Sure 1) ∷ own_lead (Beaten 2 40) ∷ []

abbrev their_leads : List Lead
their_leads = their_lead (Sure 9) ∷ their_lead Missed ∷ []

abbrev lines_of_leads : List ℕ
lines_of_leads = codes "8D: not sure; a plan fails with 6 of 10 deals; stop: sure\n8D: not sure; a plan fails with 9 of 10 deals; stop: 2\n"
    ++ codes "More than half of the deals beat each of them, so their order says little.\n"
    ++ codes "To stop them, the fewest deals beat a plan after 8D.\n"
    ++ codes "It is their turn. After what they may play:\n5: sure\n5: not sure; after 5C some deals miss the goal\n\nB\n"

at_the_lead : leads_text four_twos own_leads stop_leads their_leads (codes "\nB\n") ≡ lines_of_leads
unfolding leads_text own_line their_line digits
at_the_lead = refl

after_two_turns : leads_text after_two own_leads stop_leads their_leads (codes "\nB\n") ≡ now_text after_two ++ lines_of_leads
unfolding leads_text own_line their_line now_line other_score digits
after_two_turns = refl

-- ---- the plan to try
first_cards : (begins_words (Play 29 End ∷ []) ≡ codes " begins with 8D") × (begins_words [] ≡ [])
first_cards = (refl, refl)

below : (beaten open_deals : ℕ) →
    tried_text (Play 29 (To 1) ∷ Play 4 End ∷ []) open_deals beaten None
    ≡ codes "\nThe plan of cribsheet try begins with 8D:\n" ++ beating_text open_deals beaten None
unfolding tried_text
below beaten open_deals = refl

-- ---- what is right
second_columns : (wants_stops Win (own_lead Missed ∷ []) ≡ true) × (wants_stops Win (own_lead Missed ∷ own_lead (Sure 1) ∷ []) ≡ false)
    × (wants_stops Win (own_lead (Sure 1) ∷ own_lead Missed ∷ []) ≡ false) × (wants_stops Win [] ≡ false)
    × (wants_stops Stop (own_lead Missed ∷ []) ≡ false) × (wants_stops (Holes 3) (own_lead Missed ∷ []) ≡ false)
second_columns = (refl, refl, refl, refl, refl, refl)

no_second_column : (stops : List Lead) → AreStopsIf false four_twos stops → stops ≡ []
no_second_column stops are = are

to_stop_them : ((to_stop four_twos).goal ≡ Stop) × ((to_stop four_twos).version ≡ Two)
to_stop_them = (refl, refl)

-- the second column has the turns of the first one, in their order
right_second_column : (stops : List Lead) → IsSetup (to_stop four_twos) → (AreEntries (to_stop four_twos) all_turns stops → ⊥)
    → AreStopsIf true four_twos stops → ⊥
right_second_column stops setup none are = none (are setup)

first_two_first : (one other third last : Lead) → IsSetup (to_stop four_twos) → AreStopsIf true four_twos (one ∷ other ∷ third ∷ last ∷ [])
    → one.act ≡ plays Owner 4
unfolding set_where
first_two_first one other third last setup are = (are setup).0.0

four_and_not_five : (one other third fourth last : Lead) → IsSetup (to_stop four_twos)
    → AreStopsIf true four_twos (one ∷ other ∷ third ∷ fourth ∷ last ∷ []) → ⊥
unfolding set_where
four_and_not_five one other third fourth last setup are = (are setup).1.1.1.1

-- there is no second column if some card is sure
no_column_below_a_sure_card : AreStops close_to_lost (own_lead (Sure 1) ∷ own_lead Missed ∷ []) []
    × AreStops close_to_lost (own_lead Missed ∷ own_lead (Sure 1) ∷ []) []
no_column_below_a_sure_card = (refl, refl)

none_below_a_sure_card : AreStops close_to_lost (own_lead (Sure 1) ∷ []) (own_lead Missed ∷ []) → ⊥
none_below_a_sure_card are =
    (let none : ◌≡◌ {A = ℕ} 1 0 = ap (λ (all : List Lead). length all) are in absurd (omega (arith, none)))

abbrev twos_to_win : Setup
twos_to_win = record four_twos { goal = Win }

first_two_first_to_win : (one other third last : Lead) → IsSetup (to_stop twos_to_win)
    → AreStops twos_to_win (own_lead Missed ∷ []) (one ∷ other ∷ third ∷ last ∷ []) → one.act ≡ plays Owner 4
unfolding set_where
first_two_first_to_win one other third last setup are = (are setup).0.0

-- ---- the text of a plan to try
says_its_figures : (plan : List Node) (open_deals beaten : ℕ) (hands : Option Rows) → IsNeverStuck four_twos plan
    → AreBeating four_twos plan open_deals beaten hands → SaysTried four_twos (tried_text plan open_deals beaten hands)
says_its_figures plan open_deals beaten hands stuck beating = (plan, open_deals, beaten, hands, stuck, beating, refl)

not_without_a_text : SaysTried four_twos [] → ⊥
unfolding tried_text
not_without_a_text says = (let none : [] ≡ tried_text says.0 says.1 says.2 says.3 = says.6 in absurd cc)

not_of_a_plan_that_is_stuck : (text : List ℕ) → ((plan : List Node) → IsNeverStuck four_twos plan → ⊥) → SaysTried four_twos text → ⊥
not_of_a_plan_that_is_stuck text none says = none says.0 says.4

not_with_wrong_figures : (text : List ℕ)
    → ((plan : List Node) (open_deals beaten : ℕ) (hands : Option Rows) → AreBeating four_twos plan open_deals beaten hands → ⊥)
    → SaysTried four_twos text → ⊥
not_with_wrong_figures text none says = none says.0 says.1 says.2 says.3 says.5

three_of_forty : {A : Type 0} (tried : TriedPlan A) → tried.plan ≡ Play 29 End ∷ [] → tried.tally.open_deals ≡ 40 → tried.tally.beaten ≡ 3
    → tried.hands ≡ None → below_text (Some tried) ≡ tried_text (Play 29 End ∷ []) 40 3 None
three_of_forty tried plan open_deals beaten hands = rw (plan, open_deals, beaten, hands) refl

-- ---- large plans
large_plans : (problem : Setup) (act : Act) → (IsTooLarge problem act → HasLargePlan problem) × (IsTooLarge (to_stop problem) act → HasLargePlan problem)
    × (ExceedsLimit problem 65535 → HasLargePlan problem)
large_plans problem act = (λ is. inl (act, is), λ is. inr (inl (act, is)), λ large. inr (inr large))

no_large_plan : (problem : Setup) → ((act : Act) → IsTooLarge problem act → ⊥) → ((act : Act) → IsTooLarge (to_stop problem) act → ⊥)
    → ¬ ExceedsLimit problem 65535 → HasLargePlan problem → ⊥
no_large_plan problem turn stop small (inl is) = turn is.0 is.1
no_large_plan problem turn stop small (inr (inl is)) = stop is.0 is.1
no_large_plan problem turn stop small (inr (inr is)) = small is

-- nothing is below turns of which one is sure, and there is a plan to try if none is
below_them : (problem : Setup) (text : List ℕ) → (IsBelow problem Yes text → text ≡ [])
    × (¬ IsWinnable problem → IsBelow problem No text → SaysTried problem text)
below_them problem text = (λ is. is, λ none. tried none)
  where
    tried : ¬ IsWinnable problem → IsBelow problem No text → SaysTried problem text
    tried none (inl some) = absurd (none some.0)
    tried none (inr is) = is.1

no_text_if_a_plan_is_sure : (problem : Setup) → IsWinnable problem → IsBelow problem No (10 ∷ []) → ⊥
no_text_if_a_plan_is_sure problem winnable (inl some) =
    (let none : ◌≡◌ {A = ℕ} 1 0 = ap (λ (text : List ℕ). length text) some.1 in absurd (omega (arith, none)))
no_text_if_a_plan_is_sure problem winnable (inr says) = says.0 winnable

-- with four twos to lead and holes to get some card may be led, no second column is asked for, and nothing is below a sure card
wrong_leads : (reply : Reply) (has : HasLeads four_twos reply) →
    (has.own ≡ []) ⊎ (has.stops ≡ own_lead Missed ∷ []) ⊎ ((has.own ≡ own_lead (Sure 1) ∷ []) × (has.below ≡ codes "x"))
    ⊎ ((AreTheirs four_twos (their_lead Missed ∷ []) → ⊥) × (has.theirs ≡ their_lead Missed ∷ [])) → ⊥
unfolding set_where
wrong_leads reply has (inl none) = subst (AreEntries four_twos all_turns) none has.own_right
wrong_leads reply has (inr (inl column)) = (let none : own_lead Missed ∷ [] ≡ [] = sym column ∙ has.stops_right in cc)
wrong_leads reply has (inr (inr (inl (sure, text)))) =
    let right : IsBelow four_twos Yes has.below = subst (λ own. IsBelow four_twos (leads_status own has.theirs) has.below) sure has.below_right in
    (let none : codes "x" ≡ [] = sym text ∙ right in cc)
wrong_leads reply has (inr (inr (inr (none, theirs)))) = none (subst (AreTheirs four_twos) theirs has.theirs_right)
