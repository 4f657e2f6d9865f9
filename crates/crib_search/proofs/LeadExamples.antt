-- The plans after each lead of a worked problem. The opening is 2C, own 6C, 4C, own JH, and a go of each side at 22, so the opponent has 2C, 4C and two
-- ten-cards. The owner has KC and QH left, and plays one of them on the lead.
use Rattle.std.proofs.Common.{◌≡◌, refl, ℕ, Bool, true, false, eqb, not, ◌&&◌, ◌||◌, Option, Some, None, is_some}
use Rattle.std.proofs.Common.{List, [], ◌∷◌, ◌++◌, filter}
use Rattle.std.specs.Prelude.{if◌then◌else◌}
use Rattle.std.specs.List.{list_all, list_any}
use Rattle.std.proofs.lemmas.Bool.{both_ways, eqb-true, true_from_ne_false}
use Rattle.crib_cards.specs.Sets.{has, set_where}
use Rattle.crib_cards.specs.declared.sides.Dealt.{Dealt}
use Rattle.crib_cards.specs.declared.sides.Side.TheVariants.{Owner, Opponent}
use Rattle.crib_cards.specs.declared.moves.Move.{Move}
use Rattle.crib_cards.specs.declared.moves.Move.TheVariants.{Card, Go}
use Rattle.crib_cards.specs.declared.moves.Act.{Act}
use Rattle.crib_cards.proofs.Members.{all_has}
use Rattle.crib_play.specs.Legal.{cards_of, cards_left, fits}
use Rattle.crib_show.specs.Show.{hand_points}
use Rattle.crib_show.specs.declared.show.outcomes.Outcome.{Outcome}
use Rattle.crib_show.specs.declared.show.outcomes.Outcome.TheVariants.{Reached}
use Rattle.crib_problem.proofs.ExampleProblems.{after_tens, plays, says_go}
use Rattle.crib_problem.specs.Setup.{Setup, start_of, hands_of, unseen_of}
use Rattle.crib_plan.specs.declared.plan.Next.{Next}
use Rattle.crib_plan.specs.declared.plan.Next.TheVariants.{End, To}
use Rattle.crib_plan.specs.declared.plan.Node.{Node}
use Rattle.crib_plan.specs.declared.plan.Node.TheVariants.{Play}
use Rattle.crib_game.specs.Replay.{is_done_for, same_act, outcome_for, play_scores}
use Rattle.crib_game.specs.Following.{is_stuck}
use Rattle.crib_show.specs.Outcome.{outcome_from}

-- the owner deals, and wants to win; the starter is KS. Two gos end the pile of 2C 6C 4C JH, and KC and QH are left to the owner. The opponent is at 113, and
-- wins with eight points in the play and the hand
abbrev pub before_the_lead : Setup
before_the_lead = record after_tens {
  dealer = Owner;
  scores = record { owner = 111; opponent = 113 };
  starter = 51;
  hold = 20 ∷ 42 ∷ 48 ∷ 46 ∷ [];
  thrown = 44 ∷ 47 ∷ [];
  played = plays Opponent 4 ∷ plays Owner 20 ∷ plays Opponent 12 ∷ plays Owner 42 ∷ says_go Opponent ∷ says_go Owner ∷ [];
}

-- the same problem after the lead of a card
abbrev pub after_lead : ℕ → Setup
after_lead lead = record before_the_lead { played = before_the_lead.played ++ plays Opponent lead ∷ [] }

-- the ten-cards that are unseen: the tens, JC JD JS, QD, and KD KH
abbrev pub leads : List ℕ
leads = 36 ∷ 37 ∷ 38 ∷ 39 ∷ 40 ∷ 41 ∷ 43 ∷ 45 ∷ 49 ∷ 50 ∷ []

-- KC goes first after a ten, JC and JD, and QH after JS, a queen and a king
abbrev pub first_after : ℕ → ℕ
first_after lead = if has (36 ∷ 37 ∷ 38 ∷ 39 ∷ 40 ∷ 41 ∷ []) lead then 48 else 46

abbrev pub second_after : ℕ → ℕ
second_after lead = if has (36 ∷ 37 ∷ 38 ∷ 39 ∷ 40 ∷ 41 ∷ []) lead then 46 else 48

abbrev pub plan_after : ℕ → List Node
plan_after lead = Play (first_after lead) (To 1) ∷ Play (second_after lead) End ∷ []

-- ---- lists
-- what a test says of each lead, it says of one, and what it says of each lead and each other ten-card
pub each_lead : (test : ℕ → Bool) → list_all test leads ≡ true → (lead : ℕ) → has leads lead ≡ true → test lead ≡ true
each_lead test all lead is = all_has test leads lead all is

-- the ten-cards that the opponent may hold beside the lead
abbrev pub tens : ℕ → List ℕ
tens lead = filter (λ card. not (eqb lead card)) leads

pub each_last : (test : ℕ → ℕ → Bool) → list_all (λ lead. list_all (test lead) (tens lead)) leads ≡ true → (lead last : ℕ) → has leads lead ≡ true →
    has (tens lead) last ≡ true → test lead last ≡ true
each_last test all lead last is ten = all_has (test lead) (tens lead) last (each_lead (λ lead. list_all (test lead) (tens lead)) all lead is) ten

-- ---- what is left of the opening after some acts, or none if they differ from it
abbrev pub left_with : Act → Option (List Act) → Option (List Act)
left_with act None = None
left_with act (Some []) = Some []
left_with act (Some (next ∷ more)) = if same_act next act then Some more else None

abbrev pub left_after : ℕ → List Act → Option (List Act)
left_after lead [] = Some (after_lead lead).played
left_after lead (act ∷ before) = left_with act (left_after lead before)

abbrev pub is_over : Option (List Act) → Bool
is_over (Some []) = true
is_over acts = false

left_before : (act : Act) (it : Option (List Act)) → is_some (left_with act it) ≡ true → is_some it ≡ true
left_before act None is = is
left_before act (Some acts) is = refl

pub left_visible : (visible : Bool) (lead : ℕ) (act : Act) (acts : List Act) → is_some (left_after lead (if visible then act ∷ acts else acts)) ≡ true →
    is_some (left_after lead acts) ≡ true
left_visible true lead act acts is = left_before act (left_after lead acts) is
left_visible false lead act acts is = is

pub the_card : (number card : ℕ) (more : List Act) → is_some (if eqb number card then Some more else None) ≡ true → number ≡ card
the_card number card more is = eqb-true number card (true_from_ne_false (eqb number card) (λ other. both_ways false refl (rw other at is)))

-- ---- the records of the plan, the last turn first
abbrev pub six_turns : List Move
six_turns = Go ∷ Go ∷ Card 42 ∷ Card 12 ∷ Card 20 ∷ Card 4 ∷ []

abbrev pub four_turns : List Move
four_turns = Card 42 ∷ Card 12 ∷ Card 20 ∷ Card 4 ∷ []

abbrev pub to_lead : ℕ → List Move
to_lead lead = Card lead ∷ six_turns

abbrev pub to_first : ℕ → List Move
to_first lead = Card (first_after lead) ∷ to_lead lead

abbrev pub to_last : ℕ → ℕ → List Move
to_last lead last = Card last ∷ to_first lead

abbrev pub to_close : ℕ → ℕ → List Move
to_close lead last = Go ∷ Go ∷ to_last lead last

abbrev pub to_end : ℕ → ℕ → List Move
to_end lead last = Card (second_after lead) ∷ to_close lead last

pub data Course (lead last : ℕ) : List Move → Type 0 where
  nothing : Course lead last []
  two : Course lead last (Card 4 ∷ [])
  six : Course lead last (Card 20 ∷ Card 4 ∷ [])
  four : Course lead last (Card 12 ∷ Card 20 ∷ Card 4 ∷ [])
  jack : Course lead last four_turns
  their_go : has (tens lead) last ≡ true → Course lead last (Go ∷ four_turns)
  own_go : has (tens lead) last ≡ true → Course lead last six_turns
  the_lead : has (tens lead) last ≡ true → Course lead last (to_lead lead)
  the_first : has (tens lead) last ≡ true → Course lead last (to_first lead)
  the_last : has (tens lead) last ≡ true → Course lead last (to_last lead last)
  at_30 : has (tens lead) last ≡ true → Course lead last (Go ∷ to_last lead last)
  the_close : has (tens lead) last ≡ true → Course lead last (to_close lead last)
  the_end : has (tens lead) last ≡ true → Course lead last (to_end lead last)

-- ---- what is computed for each lead, and for each last card of the opponent
abbrev nobody : Dealt
nobody = record { hold = []; throw = [] }

abbrev pub free : ℕ → List Move → Bool
free lead past = not (is_stuck (plan_after lead) (after_lead lead).played (start_of (after_lead lead)) (hands_of (after_lead lead) nobody) past)

abbrev pub goes_on : ℕ → List Move → Bool
goes_on lead past = free lead past && not (is_done_for (after_lead lead) past)

abbrev pub can_play : List Move → Bool
can_play past = list_any (fits past) (cards_left (hands_of before_the_lead nobody) Owner past)

abbrev pub is_second : Next → Bool
is_second End = false
is_second (To node) = eqb node 1

abbrev pub is_reached : Outcome → Bool
is_reached Reached = true
is_reached outcome = false

abbrev pub with_last : ℕ → ℕ → Dealt → Dealt
with_last lead last dealt = record dealt { hold = last ∷ 4 ∷ 12 ∷ lead ∷ [] }

pub only_tens : (lead : ℕ) → has leads lead ≡ true →
    list_all (λ card. fits four_turns card || (has (4 ∷ 12 ∷ lead ∷ []) card || has (tens lead) card)) (unseen_of before_the_lead) ≡ true
unfolding set_where
only_tens = each_lead (λ lead.
    list_all (λ card. fits four_turns card || (has (4 ∷ 12 ∷ lead ∷ []) card || has (tens lead) card)) (unseen_of before_the_lead)) refl

pub still_left : (lead : ℕ) → has leads lead ≡ true →
    list_all (λ card. has (4 ∷ 12 ∷ lead ∷ []) card || not (has (cards_of four_turns) card)) (unseen_of before_the_lead) ≡ true
unfolding set_where
still_left = each_lead (λ lead.
    list_all (λ card. has (4 ∷ 12 ∷ lead ∷ []) card || not (has (cards_of four_turns) card)) (unseen_of before_the_lead)) refl

pub wins : (dealt : Dealt) (lead last : ℕ) → has leads lead ≡ true → has (tens lead) last ≡ true →
    is_reached (outcome_for (after_lead lead) (with_last lead last dealt) (play_scores (after_lead lead) (to_end lead last))) ≡ true
unfolding outcome_from hand_points
wins dealt =
    each_last (λ lead last. is_reached (outcome_for (after_lead lead) (with_last lead last dealt) (play_scores (after_lead lead) (to_end lead last)))) refl
