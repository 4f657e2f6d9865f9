-- Worked examples of turns that may come next, and of verdicts on them. A card is a number below 52: 0 is AC, 1 is AD, 4 is 2C.
use Rattle.std.proofs.Common.{◌≡◌, ℕ, Bool, true, false, List, [], ◌∷◌, ◌++◌, length, filter, map, take, drop, Some, None, refl, sym, ap, subst}
use Rattle.std.proofs.Common.{arith, ◌∙◌, inl, inr}
use Rattle.std.proofs.lemmas.Bool.{both_ways}
use Rattle.std.proofs.lemmas.List.{append-nil}
use Rattle.std.proofs.lemmas.Option.{none-some, same_Some}
use Rattle.crib_cards.specs.Cards.{rank_of, ranks}
use Rattle.crib_search.specs.Winnable.{IsWinnableAfter, after_card}
use Rattle.crib_cards.specs.Sets.{set_where}
use Rattle.crib_cards.specs.declared.sides.Dealt.{Dealt}
use Rattle.crib_cards.specs.declared.sides.Side.TheVariants.{Owner, Opponent}
use Rattle.crib_cards.specs.declared.letters.Letter.TheVariants.{Seen}
use Rattle.crib_cards.specs.declared.moves.Act.{Act}
use Rattle.crib_cards.specs.declared.moves.Move.TheVariants as move
use Rattle.crib_play.specs.Legal.{IsLegal}
use Rattle.crib_play.specs.History.{Own, Theirs, event_of}
use Rattle.crib_problem.proofs.ExampleProblems.{after_tens, close_to_lost, four_twos, pairing, plays, says_go}
use Rattle.crib_problem.specs.declared.problem.Version.TheVariants.{Two}
use Rattle.crib_problem.specs.Refusals.{already_over}
use Rattle.crib_problem.specs.Setup.{Setup, IsDealOf, IsSetup, start_of, hands_of}
use Rattle.crib_plan.specs.declared.plan.Node.{Node}
use Rattle.crib_know.specs.Hidden.{IsOpen}
use Rattle.crib_know.specs.Knowledge.{played_events}
use Rattle.crib_game.specs.declared.section.game.Game.{Game}
use Rattle.crib_check.specs.Missed.{IsMissedWith}
use Rattle.crib_sure.specs.Shows.{IsReachedBehind}
use Rattle.crib_sure.specs.Sure.{IsSure}
use Rattle.crib_deals.specs.Exact.{AreExactly, IsIn}
use Rattle.crib_beaten.specs.Beaten.{Beats}
use Rattle.crib_search.specs.Finder.{ExceedsLimit, IsFound}
use Rattle.crib_search.specs.Tried.{IsNeverStuck}
use Rattle.crib_players.specs.Laws.{longer}
use Rattle.crib_leads.specs.declared.leads.Lead.{Lead}
use Rattle.crib_leads.specs.declared.leads.Leads.{Leads}
use Rattle.crib_leads.specs.declared.verdict.LeadVerdict.{LeadVerdict}
use Rattle.crib_leads.specs.declared.verdict.LeadVerdict.TheVariants.{Sure, Beaten, Reached, Missed}
use Rattle.crib_leads.specs.Leads.{AreBySuit, AreEntries, AreLeads, AreOfRank, AreOfRanks, AreTheirs, HasBeatenPlan, HasEnded, HasSurePlan, IsEntry}
use Rattle.crib_leads.specs.Leads.{IsEntryAs, IsLowest, IsTooLarge, IsVerdict, IsVerdictBy, IsVerdictOn}
use Rattle.crib_leads.specs.Leads.{cards_of, go_of, is_next, may_come, own_turns, played_by, refusal_of, worst_first}

-- ---- which turns may come next

-- a turn that nothing refuses, and one that ends the deal, but no card that was seen and no text that is refused
by_refusal : map is_next (None ∷ Some 24 ∷ Some 20 ∷ Some 41 ∷ []) ≡ true ∷ true ∷ false ∷ false ∷ []
by_refusal = refl

-- cards as turns, in their order, and each as often as it is there
turns_with_cards : played_by Opponent (4 ∷ 0 ∷ 4 ∷ []) ≡ plays Opponent 4 ∷ plays Opponent 0 ∷ plays Opponent 4 ∷ []
turns_with_cards = refl

-- the owner has 52 cards, from AC to KS, and then a go
turns_are_53 : length own_turns ≡ 53
turns_are_53 = refl

first_and_last : (take 2 own_turns ≡ plays Owner 0 ∷ plays Owner 1 ∷ []) × (drop 51 own_turns ≡ plays Owner 51 ∷ go_of Owner ∷ [])
first_and_last = (refl, refl)

-- the aces, and the kings
four_cards : (cards_of 1 ≡ 0 ∷ 1 ∷ 2 ∷ 3 ∷ []) × (cards_of 13 ≡ 48 ∷ 49 ∷ 50 ∷ 51 ∷ []) × (go_of Opponent ≡ says_go Opponent)
four_cards = (refl, refl, refl)

-- the owner of four twos may lead each of them, no other card and no go, and the opponent has no turn
abbrev leads : List Act
leads = plays Owner 3 ∷ plays Owner 4 ∷ plays Owner 7 ∷ plays Owner 8 ∷ says_go Owner ∷ plays Opponent 0 ∷ says_go Opponent ∷ []

twos_are_led : filter (may_come four_twos) leads ≡ plays Owner 4 ∷ plays Owner 7 ∷ []
unfolding set_where
twos_are_led = refl

refused_leads : map (refusal_of four_twos) leads ≡ Some 41 ∷ None ∷ None ∷ Some 41 ∷ Some 43 ∷ Some 44 ∷ Some 44 ∷ []
unfolding set_where
refused_leads = refl

-- at 29, after TC TD 9C, the opponent may play an ace or a two that the owner has not seen, or say go
abbrev at_29 : Setup
at_29 = record after_tens { played = after_tens.played ++ plays Owner 32 ∷ [] }

low_cards_or_a_go : map (may_come at_29) (plays Opponent 3 ∷ plays Opponent 4 ∷ plays Opponent 5 ∷ plays Opponent 8 ∷ says_go Opponent ∷ plays Owner 4 ∷ [])
    ≡ true ∷ false ∷ true ∷ false ∷ true ∷ false ∷ []
unfolding set_where
low_cards_or_a_go = refl

-- after AC the opponent pairs it with AD, and is at 121: this ends the deal
abbrev ace_led : Setup
ace_led = record close_to_lost { version = Two; played = plays Owner 0 ∷ [] }

pair_ends_the_deal : refusal_of ace_led (plays Opponent 1) ≡ Some already_over
unfolding set_where
pair_ends_the_deal = refl

it_may_come : may_come ace_led (plays Opponent 1) ≡ true
unfolding set_where
it_may_come = refl

-- ---- verdicts
-- a verdict on a problem says what its plans are, and not how the deal has ended
plan_or_none : (problem : Setup) (nodes beaten open_deals : ℕ) → IsVerdictOn problem (Sure nodes) → IsVerdictOn problem (Beaten beaten open_deals) → ⊥
plan_or_none problem nodes beaten open_deals sure is = is.none (record { plan = sure.plan; sure = sure.sure })

nothing_has_ended : (problem : Setup) → (IsVerdictOn problem Reached → ⊥) × (IsVerdictOn problem Missed → ⊥)
nothing_has_ended problem = (λ is. is, λ is. is)

of_the_plan : {problem : Setup} {nodes : ℕ} (is : HasSurePlan problem nodes) →
    IsSure problem is.plan × IsFound problem (Some is.plan) × (length is.plan ≡ nodes)
of_the_plan is = (is.sure, is.found, is.long)

of_the_deals : {problem : Setup} {beaten open_deals : ℕ} (is : HasBeatenPlan problem beaten open_deals) →
    IsNeverStuck problem is.plan × AreExactly (IsOpen problem) open_deals × AreExactly (Beats problem is.plan) beaten
of_the_deals is = (is.never_stuck, is.are_open, is.are_beaten)

-- a sure plan, as it is found, has this verdict, with the number of its nodes
with_a_sure_plan : (plan : List Node) → IsSure four_twos plan → IsFound four_twos (Some plan) → ¬ ExceedsLimit four_twos 65535 →
    HasSurePlan four_twos (length plan)
with_a_sure_plan plan sure found small = record { plan = plan; sure = sure; found = found; long = refl; small = small }

not_with_a_large_plan : ExceedsLimit four_twos 65535 → (nodes : ℕ) → HasSurePlan four_twos nodes → ⊥
not_with_a_large_plan large nodes is = is.small large

no_plan_is_found : ((plan : List Node) → IsFound four_twos (Some plan) → ⊥) → (nodes : ℕ) → HasSurePlan four_twos nodes → ⊥
no_plan_is_found none nodes is = none is.plan is.found

no_plan_has_its_length : ((plan : List Node) → length plan ≡ 2 → ⊥) → HasSurePlan four_twos 2 → ⊥
no_plan_has_its_length none is = none is.plan is.long

each_plan_is_stuck : ((plan : List Node) → IsNeverStuck four_twos plan → ⊥) → (beaten open_deals : ℕ) → HasBeatenPlan four_twos beaten open_deals → ⊥
each_plan_is_stuck stuck beaten open_deals is = stuck is.plan is.never_stuck

not_if_a_plan_is_sure : (plan : List Node) → IsSure four_twos plan → (beaten open_deals : ℕ) → HasBeatenPlan four_twos beaten open_deals → ⊥
not_if_a_plan_is_sure plan sure beaten open_deals is = is.none (record { plan = plan; sure = sure })

-- ---- after the lead of AC the opponent, at 119, may have AD: it makes a pair, and 121
pairing_is : IsDealOf ace_led pairing
unfolding set_where
pairing_is = record { deal = record { held = refl; thrown = refl; distinct = refl; hidden_before = refl }; fixed = refl }

ace_is_legal : IsLegal (start_of ace_led) (hands_of ace_led pairing) (move.Card 0 ∷ [])
ace_is_legal = (tt, record { not_done = refl; may_take = (refl, refl) })

-- if no plan is sure, none has a verdict that one is
no_sure_plan_after_the_ace : ((plan : List Node) → IsSure ace_led plan → ⊥) → (nodes : ℕ) → HasSurePlan ace_led nodes → ⊥
no_sure_plan_after_the_ace none nodes is = none is.plan is.sure

-- some deal is open, and if it beats each plan, some deal beats the one that is tried
without : (deals : List Dealt) → length deals ≡ 0 → IsIn pairing deals → ⊥
without [] e among = among
without (dealt ∷ deals) e among = absurd (omega (arith, e))

some_deal_is_open : (beaten : ℕ) → HasBeatenPlan ace_led beaten 0 → ⊥
some_deal_is_open beaten is =
    without is.are_open.deals is.are_open.counted ((is.are_open.each pairing).1 (refl, (pairing_is, (move.Card 0 ∷ [], ace_is_legal, refl))))

some_deal_beats_it : ((plan : List Node) → Beats ace_led plan pairing) → (open_deals : ℕ) → HasBeatenPlan ace_led 0 open_deals → ⊥
some_deal_beats_it beats open_deals is =
    without is.are_beaten.deals is.are_beaten.counted ((is.are_beaten.each pairing).1 (refl, beats is.plan))

-- the verdict on the ace is one on the problem with it
ace_is_led : (refusal_of close_to_lost (plays Owner 0) ≡ None) × (longer close_to_lost (plays Owner 0) ≡ ace_led)
unfolding set_where
ace_is_led = (refl, refl)

verdicts_on_the_ace : (beaten : ℕ) → (IsVerdict close_to_lost (plays Owner 0) (Beaten beaten 0) → ⊥)
    × (IsVerdict close_to_lost (plays Owner 0) Missed → ⊥)
unfolding set_where
verdicts_on_the_ace beaten = (some_deal_is_open beaten, λ is. is)

-- after a two the verdict is one on the problem with it
after_a_two : (verdict : LeadVerdict) → IsVerdict four_twos (plays Owner 4) verdict → IsVerdictOn (longer four_twos (plays Owner 4)) verdict
unfolding set_where
after_a_two verdict is = is

without_a_refusal : (verdict : LeadVerdict) → IsVerdictBy None four_twos (plays Owner 4) verdict → IsVerdictOn (longer four_twos (plays Owner 4)) verdict
without_a_refusal verdict is = is

by_its_refusal : (number : ℕ) → (IsVerdictBy None close_to_lost (plays Owner 0) (Beaten number 0) → ⊥)
    × (IsVerdictBy None close_to_lost (plays Owner 0) Reached → ⊥) × (IsVerdictBy (Some 24) close_to_lost (plays Owner 0) (Sure number) → ⊥)
by_its_refusal number = (some_deal_is_open number, λ is. is, λ is. is)

-- ---- turns that end the deal
-- after the pair there is no plan; the goal is reached, or missed
after_the_pair : (nodes beaten open_deals : ℕ) → (IsVerdict ace_led (plays Opponent 1) (Sure nodes) → ⊥)
    × (IsVerdict ace_led (plays Opponent 1) (Beaten beaten open_deals) → ⊥)
unfolding set_where
after_the_pair nodes beaten open_deals = (λ is. is, λ is. is)

no_plan_at_the_end : (nodes beaten open_deals : ℕ) → (HasEnded ace_led (plays Opponent 1) (Sure nodes) → ⊥)
    × (HasEnded ace_led (plays Opponent 1) (Beaten beaten open_deals) → ⊥)
no_plan_at_the_end nodes beaten open_deals = (λ is. is, λ is. is)

-- it is missed if some game misses it, and not reached if some deal doesn't reach the goal
missed_with_a_game : (game : Game) → IsMissedWith ace_led (plays Opponent 3) game → HasEnded ace_led (plays Opponent 3) Missed
missed_with_a_game game is = (game, is)

not_reached_by_each : (IsReachedBehind ace_led (event_of (plays Opponent 3) ∷ played_events ace_led) → ⊥) → HasEnded ace_led (plays Opponent 3) Reached → ⊥
not_reached_by_each short is = short is

not_missed_without_a_game : ((game : Game) → IsMissedWith four_twos (plays Owner 4) game → ⊥) → HasEnded four_twos (plays Owner 4) Missed → ⊥
not_missed_without_a_game none is = none is.0 is.1

-- each deal that agrees with the lead of AC and an ace of the opponent reaches it
ended_by_an_ace : HasEnded ace_led (plays Opponent 3) Reached ≡ IsReachedBehind ace_led (Theirs (Seen 1) ∷ Own (move.Card 0) ∷ [])
ended_by_an_ace = refl

reached_by_the_pair : IsVerdict ace_led (plays Opponent 1) Reached → IsReachedBehind ace_led (event_of (plays Opponent 1) ∷ played_events ace_led)
unfolding set_where
reached_by_the_pair is = is

missed_by_the_pair : IsVerdict ace_led (plays Opponent 1) Missed → (game : Game) × IsMissedWith ace_led (plays Opponent 1) game
unfolding set_where
missed_by_the_pair is = is

pair_misses : (game : Game) → IsMissedWith ace_led (plays Opponent 3) game → IsVerdict ace_led (plays Opponent 3) Missed
unfolding set_where
pair_misses game is = (game, is)

-- ---- entries
-- each turn that may come next has one
one_is_missing : AreEntries four_twos (plays Owner 4 ∷ []) [] → ⊥
unfolding set_where
one_is_missing are = are

-- a card that the owner does not have has none
one_too_many : (lead : Lead) → AreEntries four_twos (plays Owner 8 ∷ []) (lead ∷ []) → ⊥
unfolding set_where
one_too_many lead are = are

-- it has its turn, and the verdict on it
abbrev missed_lead : ℕ → Lead
missed_lead card = record { act = plays Opponent card; is_rank = false; verdict = Missed }

an_entry : IsVerdict ace_led (plays Opponent 3) Missed → IsEntry ace_led (plays Opponent 3) (missed_lead 3)
an_entry is = (refl, refl, is)

not_of_another_turn : IsEntry ace_led (plays Opponent 3) (missed_lead 2) → ⊥
not_of_another_turn is =
    let what : move.Card 2 ≡ move.Card 3 = ap (λ (act : Act). act.what) is.0 in let cards : ◌≡◌ {A = ℕ} 2 3 = cc in absurd (omega (arith, cards))

not_with_another_verdict : IsEntry ace_led (plays Opponent 3) (record { act = plays Opponent 3; is_rank = false; verdict = Sure 1 }) → ⊥
unfolding set_where
not_with_another_verdict is = is.2

not_of_the_rank : IsEntryAs true ace_led (plays Opponent 3) (missed_lead 3) → ⊥
not_of_the_rank is = absurd (both_ways false refl is.1)

-- the two other aces in their order, and no entry for the ace that was led
both_aces : IsVerdict ace_led (plays Opponent 2) Missed → IsVerdict ace_led (plays Opponent 3) Missed →
    AreEntries ace_led (plays Opponent 0 ∷ plays Opponent 2 ∷ plays Opponent 3 ∷ []) (missed_lead 2 ∷ missed_lead 3 ∷ [])
unfolding set_where
both_aces third fourth = ((refl, refl, third), ((refl, refl, fourth), tt))

-- ---- the entries of ranks
other_card : move.Card 2 ≡ move.Card 3 → ⊥
other_card e = let cards : ◌≡◌ {A = ℕ} 2 3 = cc in absurd (omega (arith, cards))

same_some : {one other : Lead} → Some one ≡ Some other → one ≡ other
same_some {one} {other} e = same_Some one other e

-- of two aces that are allowed the lower one has the entry of the rank; without one there is none
abbrev missed_rank : ℕ → Lead
missed_rank card = record { act = plays Opponent card; is_rank = true; verdict = Missed }

the_lower_ace : IsVerdict ace_led (plays Opponent 2) Missed → IsLowest ace_led (plays Opponent 2 ∷ plays Opponent 3 ∷ []) (Some (missed_rank 2))
the_lower_ace is = (missed_rank 2, (refl, refl, is), refl)

not_the_higher_ace : IsLowest ace_led (plays Opponent 2 ∷ plays Opponent 3 ∷ []) (Some (missed_rank 3)) → ⊥
not_the_higher_ace is =
    other_card (ap (λ (act : Act). act.what) (sym is.1.0 ∙ ap (λ (lead : Lead). lead.act) (sym (same_some is.2))))

no_entry_without_a_card : (IsLowest ace_led [] None) × (IsLowest ace_led (plays Opponent 2 ∷ []) None → ⊥)
no_entry_without_a_card = (refl, λ is. none-some is.0 is.2)

-- a rank that is not allowed has no entry; one after whose lowest card no plan is sure has this one
entries_of_a_rank : (problem : Setup) (acts : List Act) (leads : List Lead) →
    (AreBySuit problem 1 acts None leads → leads ≡ []) × (AreBySuit problem 1 acts (Some (missed_rank 2)) leads → leads ≡ missed_rank 2 ∷ [])
entries_of_a_rank problem acts leads = (λ are. are, missed)
  where
    missed : AreBySuit problem 1 acts (Some (missed_rank 2)) leads → leads ≡ missed_rank 2 ∷ []
    missed (inl one) = one.0
    missed (inr suits) = absurd (both_ways false refl suits.1)

-- if a plan is sure after the lowest card, and one after each, there is one entry, otherwise one for each card
abbrev sure_rank : Lead
sure_rank = record { act = plays Opponent 2; is_rank = true; verdict = Sure 3 }

sure_ranks : (problem : Setup) (acts : List Act) (leads : List Lead) →
    (IsWinnableAfter problem 1 → AreBySuit problem 1 acts (Some sure_rank) leads → leads ≡ sure_rank ∷ [])
    × (¬ IsWinnableAfter problem 1 → AreBySuit problem 1 acts (Some sure_rank) leads → AreEntries problem acts leads)
sure_ranks problem acts leads = (λ winnable. one winnable, λ none. each none)
  where
    one : IsWinnableAfter problem 1 → AreBySuit problem 1 acts (Some sure_rank) leads → leads ≡ sure_rank ∷ []
    one winnable (inl is) = is.0
    one winnable (inr suits) = absurd (suits.2 winnable)

    each : ¬ IsWinnableAfter problem 1 → AreBySuit problem 1 acts (Some sure_rank) leads → AreEntries problem acts leads
    each none (inl is) = absurd (none (is.1 refl))
    each none (inr suits) = suits.0

no_lead_without_a_card : (lead : Lead) → IsLowest ace_led [] (Some lead) → ⊥
no_lead_without_a_card lead is = none-some lead (sym is)

-- one entry if no plan is sure after the lowest card
one_entry : (problem : Setup) (acts : List Act) → AreBySuit problem 1 acts (Some (missed_rank 2)) (missed_rank 2 ∷ [])
one_entry problem acts = inl (refl, λ sure. absurd (both_ways false refl sure))

no_entry : (problem : Setup) (acts : List Act) (rank : ℕ) (lead : Lead) → (AreEntries problem acts [] → ⊥) → AreBySuit problem rank acts (Some lead) [] → ⊥
no_entry problem acts rank lead not (inl one) = (let none : ◌≡◌ {A = ℕ} 0 1 = ap (λ (all : List Lead). length all) one.0 in absurd (omega (arith, none)))
no_entry problem acts rank lead not (inr suits) = not suits.0

neither_one_nor_each : (problem : Setup) (acts : List Act) (all : List Lead) → ¬ AreEntries problem acts all → ¬ IsWinnableAfter problem 1
    → AreBySuit problem 1 acts (Some sure_rank) all → ⊥
neither_one_nor_each problem acts all not none (inl is) = none (is.1 refl)
neither_one_nor_each problem acts all not none (inr suits) = not suits.0

-- if there is one entry, a plan is sure after AS as well
after_each_ace : (problem : Setup) (acts : List Act) (all : List Lead) → ¬ AreEntries problem acts all → IsSetup (after_card problem 3)
    → AreBySuit problem 1 acts (Some sure_rank) all → (plan : List Node) × IsSure (after_card problem 3) plan
after_each_ace problem acts all not setup (inl is) = (let winnable = is.1 refl in (winnable.plan, winnable.sure 3 refl setup))
after_each_ace problem acts all not setup (inr suits) = absurd (not suits.0)

-- suits don't decide if one plan is sure after each ace
one_for_all_aces : (problem : Setup) (acts : List Act) (all : List Lead) (rank : ℕ) (lead : Lead) (plan : List Node)
    → ((card : ℕ) → rank_of card ≡ rank → IsSetup (after_card problem card) → IsSure (after_card problem card) plan)
    → AreBySuit problem rank acts (Some lead) all → all ≡ lead ∷ []
one_for_all_aces problem acts all rank lead plan sure (inl is) = is.0
one_for_all_aces problem acts all rank lead plan sure (inr suits) = absurd (suits.2 (record { plan = plan; sure = λ card ace setup. sure card ace setup }))

-- AC is led. AD is the lowest of the aces that are left, and the one entry, or each ace has one
the_lowest_ace : IsVerdict ace_led (plays Opponent 1) Missed → AreOfRank ace_led 1 (missed_rank 1 ∷ [])
unfolding set_where
the_lowest_ace is = (Some (missed_rank 1), (missed_rank 1, (refl, refl, is), refl), inl (refl, λ sure. absurd (both_ways false refl sure)))

abbrev reached_with : Bool → Lead
reached_with rank = record { act = plays Opponent 1; is_rank = rank; verdict = Reached }

each_ace : IsVerdict ace_led (plays Opponent 1) Reached → IsVerdict ace_led (plays Opponent 2) Missed → IsVerdict ace_led (plays Opponent 3) Missed
    → ¬ IsWinnableAfter ace_led 1 → AreOfRank ace_led 1 (reached_with false ∷ missed_lead 2 ∷ missed_lead 3 ∷ [])
unfolding set_where
each_ace first second third none = (
  Some (reached_with true),
  (reached_with true, (refl, refl, first), refl),
  inr (((refl, refl, first), ((refl, refl, second), ((refl, refl, third), tt))), refl, none),
)

some_entry_for_an_ace : AreOfRank ace_led 1 [] → ⊥
unfolding set_where
some_entry_for_an_ace are = no_entry ace_led (played_by Opponent (cards_of 1)) 1 are.1.0 (λ none. none) (rw are.1.2 at are.2)

one_entry_for_all_aces : (leads : List Lead) (plan : List Node)
    → ((card : ℕ) → rank_of card ≡ 1 → IsSetup (after_card ace_led card) → IsSure (after_card ace_led card) plan)
    → AreOfRank ace_led 1 leads → length leads ≡ 1
unfolding set_where
one_entry_for_all_aces leads plan sure are =
    ap (λ (all : List Lead). length all)
    (one_for_all_aces ace_led (played_by Opponent (cards_of 1)) leads 1 are.1.0 plan sure (rw are.1.2 at are.2))

-- the owner of four twos leads, so the opponent has no two to play
no_two_of_theirs : AreOfRank four_twos 2 []
unfolding set_where
no_two_of_theirs = (None, refl, refl)

each_rank_is_right : (problem : Setup) (all : List Lead) → ((first : List Lead) → AreOfRank problem 1 first → ⊥)
    → AreOfRanks problem (2 ∷ 1 ∷ []) all → ⊥
each_rank_is_right problem all none are = none are.3.0 are.3.2

in_the_order_of_ranks : (problem : Setup) (leads first : List Lead) → (AreOfRanks problem [] leads → leads ≡ [])
    × (AreOfRank problem 1 first → AreOfRank problem 2 leads → AreOfRanks problem (1 ∷ 2 ∷ []) (first ++ leads))
in_the_order_of_ranks problem leads first = (λ are. are, λ one two. (first, leads, one, (leads, [], two, refl, sym (append-nil leads)), refl))

-- ---- the entries of all turns
-- the lead of four twos has some entry
some_lead : {A : Type 0} (all : Leads A) → all.own.items ≡ [] → AreLeads four_twos all → ⊥
unfolding set_where
some_lead all none are = subst (AreEntries four_twos own_turns) none are.0

-- their entries are those of the ranks and of a go, the worst first
all_of_theirs : {A : Type 0} (problem : Setup) (all : Leads A) → AreLeads problem all → AreTheirs problem all.theirs.items
all_of_theirs problem all are = are.1

ranks_and_a_go : (problem : Setup) (all cards gos : List Lead) → AreOfRanks problem ranks cards → AreEntries problem (says_go Opponent ∷ []) gos →
    all ≡ worst_first (cards ++ gos) → AreTheirs problem all
ranks_and_a_go problem all cards gos are go same = (cards, gos, are, go, same)

-- ---- large plans
-- no plan is too large after a turn that ends the deal
too_large : IsTooLarge ace_led (plays Opponent 1) → ⊥
unfolding set_where
too_large is = cc

large_plan : (problem : Setup) (act : Act) → IsTooLarge problem act → ExceedsLimit (longer problem act) 65535
large_plan problem act is = is.1

not_too_large : (ExceedsLimit (longer four_twos (plays Owner 4)) 65535 → ⊥) → IsTooLarge four_twos (plays Owner 4) → ⊥
not_too_large none is = none is.1
