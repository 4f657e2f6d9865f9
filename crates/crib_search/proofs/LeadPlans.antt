-- The plans of the worked leads are sure. After the opening the opponent has the lead and one ten-card more.
use Rattle.std.proofs.Common.{arith, ◌≡◌, refl, sym, ap, ◌∙◌, inl, inr, ℕ, Bool, true, false, eqb, not, ◌||◌, Option, Some, is_some}
use Rattle.std.proofs.Common.{List, [], ◌∷◌, ◌++◌, length}
use Rattle.std.specs.Prelude.{IsTrue, IsFalse}
use Rattle.std.specs.List.{list_all, list_any}
use Rattle.std.proofs.lemmas.Bool.{both_ways, eqb-true, and_parts, not-true, or_cases, or_left}
use Rattle.std.proofs.lemmas.Option.{same_Some}
use Rattle.crib_cards.specs.Sets.{has, are_distinct}
use Rattle.crib_cards.specs.declared.sides.Dealt.{Dealt}
use Rattle.crib_cards.specs.declared.sides.Side.TheVariants.{Owner, Opponent}
use Rattle.crib_cards.specs.declared.moves.Move.{Move}
use Rattle.crib_cards.specs.declared.moves.Move.TheVariants.{Card, Go}
use Rattle.crib_cards.specs.declared.moves.Act.{Act}
use Rattle.crib_cards.specs.Letters.{letter_of}
use Rattle.crib_cards.proofs.Members.{AreAmong, all_has, any_from, distinct_left, distinct_parts, has_cases, has_here, has_there}
use Rattle.crib_cards.proofs.SetFacts.{has-append}
use Rattle.crib_play.specs.Legal.{MayCome, IsLegal, cards_of, cards_left, fits, letters_of}
use Rattle.crib_play.specs.History.{act_by, acts_of}
use Rattle.crib_play.specs.Filled.{is_visible}
use Rattle.crib_play.proofs.CardLemmas.{none_passes}
use Rattle.crib_show.specs.declared.show.outcomes.Outcome.{Outcome}
use Rattle.crib_show.specs.declared.show.outcomes.Outcome.TheVariants.{Reached}
use Rattle.crib_show.proofs.Exchange.{front_of, has-reordered}
use Rattle.crib_show.proofs.ReorderedLists.{Reordered, behind, both, same_order, last_first, length-reordered, are_distinct-reordered}
use Rattle.crib_show.proofs.OrderLaw.{outcome_of-reordered}
use Rattle.crib_problem.specs.Setup.{Setup, IsDealOf, start_of, hands_of, played_back, unseen_of, fixed_cards}
use Rattle.crib_plan.specs.declared.plan.Next.{Next}
use Rattle.crib_plan.specs.declared.plan.Next.TheVariants.{End, To}
use Rattle.crib_plan.specs.declared.plan.Node.{Node}
use Rattle.crib_plan.proofs.LeadsTo.{or_rest}
use Rattle.crib_know.proofs.CardsLeft.{has-filter_parts, has-filter_from}
use Rattle.crib_game.specs.Replay.{is_done_for, outcome_for, full_with, play_scores}
use Rattle.crib_game.specs.Following.{Follows, is_stuck, opening_is_over, place_of}
use Rattle.crib_sure.specs.Sure.{IsSure, IsFollowed}
use Rattle.crib_search.proofs.LeadExamples.{before_the_lead, after_lead, leads, first_after, second_after, plan_after, tens}
use Rattle.crib_search.proofs.LeadExamples.{each_lead, each_last, left_with, left_after, is_over, left_visible, the_card, four_turns}
use Rattle.crib_search.proofs.LeadExamples.{to_lead, to_first, to_last, to_close, to_end, free, goes_on, can_play, is_second, is_reached, with_last}
use Rattle.crib_search.proofs.LeadExamples.{only_tens, still_left, wins, Course, nothing, two, six, four, jack}
use Rattle.crib_search.proofs.LeadExamples.{their_go, own_go, the_lead, the_first, the_last, at_30, the_close, the_end}

-- ---- the opponent's cards
record Held (lead : ℕ) (dealt : Dealt) : Type 0 where
  last : ℕ
  order : Reordered dealt.hold (last ∷ 4 ∷ 12 ∷ lead ∷ [])
  other : has (4 ∷ 12 ∷ lead ∷ []) last ≡ false
  unseen : has (unseen_of before_the_lead) last ≡ true

-- different numbers that are in a list can be brought to its front, and its last number to the front of it
brought_all : (numbers xs : List ℕ) → are_distinct numbers ≡ true → AreAmong xs numbers → (rest : List ℕ) × Reordered xs (numbers ++ rest)
brought_all [] xs distinct among = (xs, same_order xs)
brought_all (x ∷ numbers) xs distinct among =
    let parts = distinct_parts x numbers distinct in
    let found = front_of x xs (among x (has_here x numbers)) in
    let more = brought_all numbers found.rest parts.1 (λ y h.
    elim (has_cases x y found.rest (sym (has-reordered xs (x ∷ found.rest) y found.order) ∙ among y (has_there x y numbers h))) [
      | inl same ↦ absurd (both_ways (has numbers x) parts.0 (rw same h))
      | inr there ↦ there
    ]) in
    (more.0, both xs (x ∷ found.rest) (x ∷ numbers ++ more.0) found.order (behind x found.rest (numbers ++ more.0) more.1))

held : (lead : ℕ) → has leads lead ≡ true → (dealt : Dealt) → IsDealOf (after_lead lead) dealt → Held lead dealt
held lead is dealt deal =
    let fixed = each_lead (λ lead. list_all (has (fixed_cards (after_lead lead))) (4 ∷ 12 ∷ lead ∷ [])) refl lead is in
    let three = brought_all (4 ∷ 12 ∷ lead ∷ []) dealt.hold (each_lead (λ lead. are_distinct (4 ∷ 12 ∷ lead ∷ [])) refl lead is)
    (λ card h. all_has (has dealt.hold) (fixed_cards (after_lead lead)) card deal.fixed
    (all_has (has (fixed_cards (after_lead lead))) (4 ∷ 12 ∷ lead ∷ []) card fixed h)) in
    let four = sym (length-reordered dealt.hold (4 ∷ 12 ∷ lead ∷ three.0) three.1) ∙ deal.deal.held in
    of_rest three.0 (omega (arith, four)) three.1
  where
    of_rest : (rest : List ℕ) → length rest ≡ 1 → Reordered dealt.hold (4 ∷ 12 ∷ lead ∷ rest) → Held lead dealt
    of_rest (last ∷ []) one listed =
        let order = both dealt.hold (4 ∷ 12 ∷ lead ∷ last ∷ []) (last ∷ 4 ∷ 12 ∷ lead ∷ []) listed (last_first (4 ∷ 12 ∷ lead ∷ []) last) in
        let distinct = sym (are_distinct-reordered dealt.hold (last ∷ 4 ∷ 12 ∷ lead ∷ []) order) ∙ distinct_left dealt.hold dealt.throw deal.deal.distinct in
        let here = has-reordered dealt.hold (last ∷ 4 ∷ 12 ∷ lead ∷ []) last order ∙ has_here last (4 ∷ 12 ∷ lead ∷ []) in
        record {
          last = last;
          order = order;
          other = (distinct_parts last (4 ∷ 12 ∷ lead ∷ []) distinct).0;
          unseen = all_has (has (unseen_of before_the_lead)) (dealt.hold ++ dealt.throw) last deal.deal.hidden_before
              (has-append dealt.hold dealt.throw last ∙ or_left (has dealt.hold last) (has dealt.throw last) here);
        }
    of_rest rest one listed = absurd (omega (arith, one))

-- ---- the plan is sure
second_place : (place : Next) → is_second place ≡ true → place ≡ To 1
second_place End h = absurd (both_ways false refl h)
second_place (To node) h = ap To (eqb-true node 1 h)

reached_is : (outcome : Outcome) → is_reached outcome ≡ true → outcome ≡ Reached
reached_is Reached h = refl
reached_is outcome h = absurd (both_ways false refl h)

module _ (lead : ℕ) (is : has leads lead ≡ true) (dealt : Dealt) (deal : IsDealOf (after_lead lead) dealt) where
  abbrev problem : Setup
  problem = after_lead lead

  abbrev plan : List Node
  plan = plan_after lead

  hidden : Held lead dealt
  hidden = held lead is dealt deal

  abbrev last : ℕ
  last = hidden.last

  in_hold : has dealt.hold last ≡ true
  in_hold = has-reordered dealt.hold (last ∷ 4 ∷ 12 ∷ lead ∷ []) last hidden.order ∙ has_here last (4 ∷ 12 ∷ lead ∷ [])

  one_of_four : (card : ℕ) → has dealt.hold card ≡ true → has (last ∷ 4 ∷ 12 ∷ lead ∷ []) card ≡ true
  one_of_four card h = sym (has-reordered dealt.hold (last ∷ 4 ∷ 12 ∷ lead ∷ []) card hidden.order) ∙ h

  -- what a test says of each lead and each last card
  here : (test : ℕ → ℕ → Bool) → list_all (λ first. list_all (test first) (tens first)) leads ≡ true → has (tens lead) last ≡ true → test lead last ≡ true
  here test all ten = each_last test all lead last is ten

  -- after a go at 22 the opponent has ten-cards alone
  has_ten : IsFalse (list_any (fits four_turns) (cards_left (hands_of problem dealt) Opponent four_turns)) → has (tens lead) last ≡ true
  has_ten none =
      let is_left = or_rest (has (4 ∷ 12 ∷ lead ∷ []) last) (not (has (cards_of four_turns) last))
      (all_has (λ card. has (4 ∷ 12 ∷ lead ∷ []) card || not (has (cards_of four_turns) card)) (unseen_of before_the_lead) last
      (still_left lead is) hidden.unseen) hidden.other in
      let left = has-filter_from (λ card. not (has (cards_of four_turns) card)) dealt.hold last in_hold is_left in
      let stops = none_passes (fits four_turns) (cards_left (hands_of problem dealt) Opponent four_turns) last none left in
      or_rest (has (4 ∷ 12 ∷ lead ∷ []) last) (has (tens lead) last)
      (or_rest (fits four_turns last) (has (4 ∷ 12 ∷ lead ∷ []) last || has (tens lead) last)
      (all_has (λ card. fits four_turns card || (has (4 ∷ 12 ∷ lead ∷ []) card || has (tens lead) card)) (unseen_of before_the_lead) last
      (only_tens lead is) hidden.unseen) stops) hidden.other

  -- the card that the opponent shows after the lead
  the_card_left : (card : ℕ) → has (cards_left (hands_of problem dealt) Opponent (to_first lead)) card ≡ true → last ≡ card
  the_card_left card h =
      let parts = has-filter_parts (λ other. not (has (cards_of (to_first lead)) other)) dealt.hold card h in
      let known = each_lead (λ lead. list_all (has (cards_of (to_first lead))) (4 ∷ 12 ∷ lead ∷ [])) refl lead is in
      elim (or_cases (eqb last card) (has (4 ∷ 12 ∷ lead ∷ []) card) (one_of_four card parts.0)) [
        | inl same ↦ eqb-true last card same
        | inr shown ↦ absurd (both_ways (has (cards_of (to_first lead)) card) (not-true (has (cards_of (to_first lead)) card) parts.1)
            (all_has (has (cards_of (to_first lead))) (4 ∷ 12 ∷ lead ∷ []) card known shown))
      ]

  no_card_left : has (tens lead) last ≡ true → (card : ℕ) → has (cards_left (hands_of problem dealt) Opponent (Go ∷ to_last lead last)) card ≡ true → ⊥
  no_card_left ten card h =
      let parts = has-filter_parts (λ other. not (has (cards_of (Go ∷ to_last lead last)) other)) dealt.hold card h in
      let known = here (λ lead last. list_all (has (cards_of (Go ∷ to_last lead last))) (last ∷ 4 ∷ 12 ∷ lead ∷ [])) refl ten in
      both_ways (has (cards_of (Go ∷ to_last lead last)) card) (not-true (has (cards_of (Go ∷ to_last lead last)) card) parts.1)
      (all_has (has (cards_of (Go ∷ to_last lead last))) (last ∷ 4 ∷ 12 ∷ lead ∷ []) card known (one_of_four card parts.0))

  may_not_go : has (tens lead) last ≡ true →
      IsFalse (list_any (fits (to_first lead)) (cards_left (hands_of problem dealt) Opponent (to_first lead))) → ⊥
  may_not_go ten none =
      let past = to_first lead in
      let left = has-filter_from (λ card. not (has (cards_of past) card)) dealt.hold last in_hold
      (here (λ lead last. not (has (cards_of (to_first lead)) last)) refl ten) in
      both_ways (list_any (fits past) (cards_left (hands_of problem dealt) Opponent past)) none
      (any_from (fits past) (cards_left (hands_of problem dealt) Opponent past) last left (here (λ lead last. fits (to_first lead) last) refl ten))

  abbrev Courses : List Move → Type 0
  Courses played = Course lead last played

  further : (turn : Move) (past : List Move) → Courses past → MayCome (start_of problem) (hands_of problem dealt) turn past →
      Follows plan problem.played Opponent (turn ∷ past) → is_some (left_after lead (acts_of Opponent (turn ∷ past))) ≡ true → Courses (turn ∷ past)
  further (Card card) past nothing come follows on = rw (← the_card 4 card _ on) two
  further (Card card) past two come follows on = rw (← the_card 20 card _ on) six
  further (Card card) past six come follows on = rw (← the_card 12 card _ on) four
  further (Card card) past four come follows on = rw (← the_card 42 card _ on) jack
  further Go past jack come follows on = their_go (has_ten come.may_take)
  further Go past (their_go ten) come follows on = own_go ten
  further (Card card) past (own_go ten) come follows on = rw (← the_card lead card _ on) (the_lead ten)
  further (Card card) past (the_lead ten) come follows on = rw (← same_Some (first_after lead) card (follows.1 refl)) (the_first ten)
  further Go past (the_lead ten) come follows on = absurd (both_ways (can_play past) come.may_take (each_lead (λ lead. can_play (to_lead lead)) refl lead is))
  further (Card card) past (the_first ten) come follows on = rw (← the_card_left card come.may_take.0) (the_last ten)
  further Go past (the_first ten) come follows on = absurd (may_not_go ten come.may_take)
  further (Card card) past (the_last ten) come follows on =
      absurd (both_ways (can_play past) (not-true (can_play past) (here (λ lead last. not (can_play (to_last lead last))) refl ten))
      (any_from (fits past) (cards_left (hands_of problem dealt) Owner past) card come.may_take.0 come.may_take.1))
  further Go past (the_last ten) come follows on = at_30 ten
  further (Card card) past (at_30 ten) come follows on = absurd (no_card_left ten card come.may_take.0)
  further Go past (at_30 ten) come follows on = the_close ten
  further (Card card) past (the_close ten) come follows on =
      let place = second_place (place_of plan problem.played Opponent past)
      (here (λ lead last. is_second (place_of (plan_after lead) (after_lead lead).played Opponent (to_close lead last))) refl ten) in
      let late = here (λ lead last. opening_is_over (after_lead lead).played Opponent (to_close lead last)) refl ten in
      rw (← same_Some (second_after lead) card (rw place at (follows.1 late))) (the_end ten)
  further Go past (the_close ten) come follows on =
      absurd (both_ways (can_play past) come.may_take (here (λ lead last. can_play (to_close lead last)) refl ten))
  further turn past (the_end ten) come follows on =
      absurd (both_ways (is_done_for problem past) come.not_done (here (λ lead last. is_done_for (after_lead lead) (to_end lead last)) refl ten))
  further turn past other come follows on = absurd (both_ways false refl on)

  course : (played : List Move) → IsLegal (start_of problem) (hands_of problem dealt) played → Follows plan problem.played Opponent played →
      is_some (left_after lead (acts_of Opponent played)) ≡ true → Courses played
  course [] legal follows on = nothing
  course (turn ∷ past) legal follows on =
      let earlier = left_visible (is_visible Opponent (letter_of turn) (letters_of past)) lead (act_by Opponent turn past) (acts_of Opponent past) on in
      further turn past (course past legal.0 follows.0 earlier) legal.1 follows on

  -- a record after which the plan goes on, or which is done and won
  abbrev IsGood : List Move → Type 0
  IsGood played =
      IsFalse (is_stuck plan problem.played (start_of problem) (hands_of problem dealt) played)
      × (IsTrue (is_done_for problem played) → outcome_for problem dealt (play_scores problem played) ≡ Reached)

  goes : (played : List Move) → goes_on lead played ≡ true → IsGood played
  goes played h =
      let stuck = is_stuck plan problem.played (start_of problem) (hands_of problem dealt) played in
      let parts = and_parts (not stuck) (not (is_done_for problem played)) h in
      (not-true stuck parts.0, λ done. absurd (both_ways (is_done_for problem played) (not-true (is_done_for problem played) parts.1) done))

  good : (played : List Move) → left_after lead (acts_of Opponent played) ≡ Some [] → Courses played → IsGood played
  good played over (the_lead ten) = goes played (each_lead (λ lead. goes_on lead (to_lead lead)) refl lead is)
  good played over (the_first ten) = goes played (each_lead (λ lead. goes_on lead (to_first lead)) refl lead is)
  good played over (the_last ten) = goes played (here (λ lead last. goes_on lead (to_last lead last)) refl ten)
  good played over (at_30 ten) = goes played (here (λ lead last. goes_on lead (Go ∷ to_last lead last)) refl ten)
  good played over (the_close ten) = goes played (here (λ lead last. goes_on lead (to_close lead last)) refl ten)
  good played over (the_end ten) = (
    not-true (is_stuck plan problem.played (start_of problem) (hands_of problem dealt) played) (here (λ lead last. free lead (to_end lead last)) refl ten),
    λ done. outcome_of-reordered (full_with problem dealt (play_scores problem played)) dealt (with_last lead last dealt)
        (record { hold = hidden.order; throw = same_order dealt.throw })
        ∙ reached_is (outcome_for problem (with_last lead last dealt) (play_scores problem played)) (wins dealt lead last is ten),
  )
  good played over other = absurd (both_ways false refl (ap is_over over))

over_is : (it : Option (List Act)) → is_over it ≡ true → it ≡ Some []
over_is (Some []) h = refl
over_is it h = absurd (both_ways false refl h)

begun : (lead : ℕ) → has leads lead ≡ true → (later : List Act) → left_after lead (later ++ played_back (after_lead lead)) ≡ Some []
begun lead is [] =
    over_is (left_after lead (played_back (after_lead lead)))
    (each_lead (λ lead. is_over (left_after lead (played_back (after_lead lead)))) refl lead is)
begun lead is (act ∷ later) = ap (left_with act) (begun lead is later)

pub plan_is_sure : (lead : ℕ) → has leads lead ≡ true → IsSure (after_lead lead) (plan_after lead)
plan_is_sure lead is = record {
  never_stuck = λ dealt played follows. (each dealt played follows).0;
  reached = λ dealt played follows. (each dealt played follows).1;
}
  where
    each : (dealt : Dealt) (played : List Move) (follows : IsFollowed (after_lead lead) (plan_after lead) dealt played) →
        IsGood lead is dealt follows.deal played
    each dealt played follows =
        let over : left_after lead (acts_of Opponent played) ≡ Some [] = ap (left_after lead) follows.begins.parts ∙ begun lead is follows.begins.later in
        good lead is dealt follows.deal played over (course lead is dealt follows.deal played follows.legal follows.follows (rw over refl))
