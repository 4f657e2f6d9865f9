-- Worked examples of deals that beat a plan, and of demands that decide it.
use Rattle.std.proofs.Common.{◌≡◌, ℕ, true, false, List, [], ◌∷◌, ◌≤◌, refl, sym, ap, ◌∙◌, subst}
use Rattle.std.specs.Prelude.{IsFalse, IsTrue, map}
use Rattle.std.proofs.lemmas.Bool.{both_ways, false_from_ne_true}
use Rattle.crib_cards.specs.Cards.{rank_of}
use Rattle.crib_cards.specs.Sets.{rank_counts, set_where}
use Rattle.crib_cards.specs.declared.letters.Letter.TheVariants.{Seen, Go}
use Rattle.crib_cards.specs.declared.sides.Dealt.{Dealt}
use Rattle.crib_show.specs.Show.{hand_points, crib_points}
use Rattle.crib_show.specs.declared.demands.Demand.{Demand}
use Rattle.crib_show.proofs.DemandExamples.{of_three}
use Rattle.crib_problem.specs.Setup.{Setup, IsDealOf}
use Rattle.crib_plan.specs.declared.plan.Next.TheVariants.{End, To}
use Rattle.crib_plan.specs.declared.plan.Node.{Node}
use Rattle.crib_know.specs.Knowledge.{Knowledge}
use Rattle.crib_game.specs.declared.following.ending.Ending.TheVariants as ending
use Rattle.crib_problem.proofs.ExampleProblems.{four_twos, aces}
use Rattle.crib_beaten.specs.declared.plays.Plays.{Plays}
use Rattle.crib_know.specs.Hidden.{IsOpen}
use Rattle.crib_sure.specs.Shows.{meets}
use Rattle.crib_beaten.specs.Beaten.{ArePlays, Beats, Decides, counts_of, demand_of, may_show}
use Rattle.crib_check.proofs.Examples.{aces_are_a_deal, no_acts, stuck_at_once}
use Rattle.crib_sure.proofs.ExampleOpening.{at_29}

-- four aces with the starter KD count 12, and 4C 6D 3C 3D in the crib count 2
aces_meet : map (λ (demand : ℕ × ℕ × ℕ). meets four_twos (record { hand = demand.0; total = demand.1; crib = demand.2 }) aces)
    ((12, 14, 2) ∷ (11, 14, 2) ∷ (12, 13, 2) ∷ (12, 14, 3) ∷ []) ≡ true ∷ false ∷ false ∷ false ∷ []
unfolding hand_points crib_points
aces_meet = refl

-- four clubs count as a flush in the hand, and would not in the crib
abbrev clubs : Dealt
clubs = record { hold = 0 ∷ 16 ∷ 32 ∷ 44 ∷ []; throw = 8 ∷ 9 ∷ [] }

clubs_meet : map (λ (points : ℕ). meets four_twos (record { hand = points; total = 99; crib = 0 }) clubs) (10 ∷ 9 ∷ []) ≡ true ∷ false ∷ []
unfolding hand_points crib_points
clubs_meet = refl

-- ---- letters
-- a hold of two aces, a two and a three shows a second ace, and no third one
a_second_ace : (before after : Knowledge) →
    may_show (record before { ranks_seen = rank_counts (1 ∷ []) }) after (Seen 1) (rank_counts (1 ∷ 1 ∷ 2 ∷ 3 ∷ [])) ≡ true
a_second_ace before after = refl

no_third_ace : (before after : Knowledge) →
    may_show (record before { ranks_seen = rank_counts (1 ∷ 1 ∷ []) }) after (Seen 1) (rank_counts (1 ∷ 1 ∷ 2 ∷ 3 ∷ [])) ≡ false
no_third_ace before after = refl

a_second_king : (before after : Knowledge) →
    may_show (record before { ranks_seen = rank_counts (13 ∷ []) }) after (Seen 13) (rank_counts (1 ∷ 2 ∷ 13 ∷ 13 ∷ [])) ≡ true
a_second_king before after = refl

-- a go at 28 leaves no card below a four but those that were shown
abbrev after_a_go : Knowledge → Knowledge
after_a_go after = record after { least = 4; ranks_seen = rank_counts (2 ∷ []) }

a_go_with_fours : (before after : Knowledge) → may_show before (after_a_go after) Go (rank_counts (2 ∷ 4 ∷ 4 ∷ 5 ∷ [])) ≡ true
a_go_with_fours before after = refl

a_go_after_a_king : (before after : Knowledge) →
    may_show before (record after { least = 4; ranks_seen = rank_counts (13 ∷ []) }) Go (rank_counts (4 ∷ 5 ∷ 6 ∷ 13 ∷ [])) ≡ true
a_go_after_a_king before after = refl

no_go_with_a_three : (before after : Knowledge) → may_show before (after_a_go after) Go (rank_counts (2 ∷ 3 ∷ 4 ∷ 5 ∷ [])) ≡ false
no_go_with_a_three before after = refl

-- ---- open deals
aces_are_open : IsOpen four_twos aces
aces_are_open = (aces_are_a_deal, ([], tt, refl))

-- the owner has all twos
no_two_is_held : IsOpen four_twos (record { hold = 0 ∷ 1 ∷ 2 ∷ 4 ∷ []; throw = 8 ∷ 9 ∷ [] }) → ⊥
unfolding set_where
no_two_is_held is = both_ways false refl is.0.deal.hidden_before

-- the opponent has played TD
the_ten_is_held : IsOpen at_29 (record { hold = 1 ∷ 2 ∷ 3 ∷ 38 ∷ []; throw = 8 ∷ 9 ∷ [] }) → ⊥
the_ten_is_held is = both_ways false refl is.0.fixed

-- ---- deals that beat a plan: without a node it is stuck at the first lead
aces_beat_nothing : Beats four_twos [] aces
aces_beat_nothing = record { game = no_acts; result = ending.Stuck; failing = stuck_at_once; of_deal = refl }

-- what beats a plan is a deal of the problem
what_beats_is_a_deal : (problem : Setup) (plan : List Node) (dealt : Dealt) → Beats problem plan dealt → IsDealOf problem dealt
what_beats_is_a_deal problem plan dealt beats = subst (IsDealOf problem) beats.of_deal beats.failing.of_game.of_game.deal

-- no game that fails has a deal with an owner's card
nothing_beats_with_a_two : (plan : List Node) → Beats four_twos plan (record { hold = 0 ∷ 1 ∷ 2 ∷ 4 ∷ []; throw = 8 ∷ 9 ∷ [] }) → ⊥
unfolding set_where
nothing_beats_with_a_two plan beats =
    both_ways false refl (subst (IsDealOf four_twos) beats.of_deal beats.failing.of_game.of_game.deal).deal.hidden_before

-- a demand that decides is missed by them
the_demand_is_missed : (demand : Demand) → Decides four_twos [] (rank_counts (1 ∷ 1 ∷ 1 ∷ 1 ∷ [])) demand → IsFalse (meets four_twos demand aces)
the_demand_is_missed demand decides = false_from_ne_true (meets four_twos demand aces) (λ met. decides.met aces aces_are_open refl met aces_beat_nothing)

-- the ranks of a hold count in any order
abbrev aces_and_a_three : Dealt
aces_and_a_three = record { hold = 0 ∷ 1 ∷ 2 ∷ 8 ∷ []; throw = 9 ∷ 10 ∷ [] }

in_any_order : (demand : Demand) → Decides four_twos [] (rank_counts (1 ∷ 3 ∷ 1 ∷ 1 ∷ [])) demand → IsOpen four_twos aces_and_a_three →
    IsFalse (meets four_twos demand aces_and_a_three) → Beats four_twos [] aces_and_a_three
in_any_order demand decides agrees missed = decides.missed aces_and_a_three agrees refl missed

-- ---- what a demand of so many cards of each rank says
missed_ones_beat : (problem : Setup) (plan : List Node) (counts : List ℕ) (demand : Demand) → Decides problem plan counts demand → (dealt : Dealt) →
    IsOpen problem dealt → rank_counts (map rank_of dealt.hold) ≡ counts →
    (IsTrue (meets problem demand dealt) → ¬ Beats problem plan dealt) × (IsFalse (meets problem demand dealt) → Beats problem plan dealt)
missed_ones_beat problem plan counts demand decides dealt agrees same = (decides.met dealt agrees same, decides.missed dealt agrees same)

-- ---- indices
by_index : (counts_of ((1 ∷ []) ∷ (2 ∷ []) ∷ []) 1 ≡ 2 ∷ []) × (demand_of (of_three ∷ []) 0 ≡ of_three)
by_index = (refl, refl)

abbrev of_nothing : Demand
of_nothing = record { hand = 0; total = 0; crib = 0 }

index_without_a_demand : demand_of (of_three ∷ of_nothing ∷ []) 0 ∷ demand_of (of_three ∷ of_nothing ∷ []) 2 ∷ [] ≡ of_three ∷ of_nothing ∷ []
index_without_a_demand = refl

-- ---- the games of four twos, whose hand has 12 points, without a node
begun_at_the_end : {A : Type 0} {plays : Plays A} → plays.start.place ≡ To 0 → ArePlays four_twos [] plays → ⊥
begun_at_the_end first are = (let same : To 0 ≡ End = sym first ∙ are.start.place in cc)

module _ {A : Type 0} {plays : Plays A} where
  games_of_four_twos : ArePlays four_twos [] plays → (plays.problem.now.hold ≡ 4 ∷ 5 ∷ 6 ∷ 7 ∷ []) × (plays.plan.now ≡ []) × (plays.own_hand ≡ 12)
  unfolding hand_points
  games_of_four_twos are = (ap (λ (p : Setup). p.hold) are.same_problem, are.same_plan, are.points)

  owner_has_102 : {problem : Setup} {plan : List Node} → ArePlays problem plan plays → plays.own_hand ≤ 102
  owner_has_102 are = are.few
