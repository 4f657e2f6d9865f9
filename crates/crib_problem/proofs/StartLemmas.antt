-- What a problem and its hidden deals give the play: a start, and two holds dealt from the pack.
use Rattle.std.proofs.Common.{◌≡◌, ℕ, true, false, not, List, [], ◌∷◌, ◌++◌, length, refl, sym, subst, ◌∙◌, inl, inr, arith}
use Rattle.std.specs.List.{AllByRecursion}
use Rattle.std.proofs.lemmas.Bool.{both_ways}
use Rattle.std.proofs.lemmas.Bool.Decides.{nat_tests}
use Rattle.crib_cards.specs.Cards.{IsCard}
use Rattle.crib_cards.specs.Sets.{has, are_distinct, set_of}
use Rattle.crib_cards.specs.Deals.{IsDeal}
use Rattle.crib_cards.specs.declared.sides.Dealt.{Dealt}
use Rattle.crib_cards.proofs.SetFacts.{has-append, in_set_where}
use Rattle.crib_cards.proofs.SetCounts.{length-count_all, count_by-set_of}
use Rattle.crib_play.specs.Standing.{IsStart}
use Rattle.crib_play.specs.Legal.{IsDealt}
use Rattle.crib_problem.specs.Setup.{Setup, IsSetup, known_cards, unseen_of, start_of, hands_of}
use Rattle.crib_problem.proofs.GoalForms.{goal_bounds}
use Rattle.crib_cards.proofs.Members.{all_has, has_cases, distinct_append, distinct_left, distinct_parts}

-- ---- lists of cards
pub each_has : (P : ℕ → Type 0) (xs : List ℕ) (card : ℕ) → AllByRecursion P xs → has xs card ≡ true → P card
each_has P [] card all h = absurd (both_ways false refl h)
each_has P (x ∷ xs) card all h = elim (has_cases x card xs h) [ inl here ↦ subst P here all.0 | inr there ↦ each_has P xs card all.1 there ]

-- ---- the start
module _ (problem : Setup) (setup : IsSetup problem) where
  pub started : IsStart (start_of problem)
  started = omega (arith, goal_bounds problem.scores.owner problem.goal setup.owner_score setup.goal_in_range, setup.opponent_score)

  -- ---- the owner's hold
  pub hold_known : (card : ℕ) → has problem.hold card ≡ true → has (known_cards problem) card ≡ true
  hold_known card mine = grind (arith, nat_tests, mine, has-append problem.hold problem.thrown card)

  pub hold_is_card : (card : ℕ) → has problem.hold card ≡ true → IsCard card
  hold_is_card card mine = each_has IsCard (known_cards problem) card setup.cards (hold_known card mine)

  pub hold_distinct : are_distinct problem.hold ≡ true
  hold_distinct = distinct_left problem.hold problem.thrown (distinct_parts problem.starter (problem.hold ++ problem.thrown) setup.distinct).1

  pub hold_four : length (set_of problem.hold) ≡ 4
  hold_four =
      length-count_all (set_of problem.hold) ∙ count_by-set_of (λ _. true) problem.hold hold_distinct hold_is_card ∙ sym (length-count_all problem.hold)
      ∙ setup.held

  -- ---- the holds of a hidden deal
  module _ (dealt : Dealt) (deal : IsDeal (unseen_of problem) dealt) where
    pub theirs_unseen : (card : ℕ) → has dealt.hold card ≡ true → IsCard card × (has (known_cards problem) card ≡ false)
    theirs_unseen card theirs =
        let six : has (dealt.hold ++ dealt.throw) card ≡ true = grind (arith, nat_tests, theirs, has-append dealt.hold dealt.throw card) in
        let unseen = all_has (has (unseen_of problem)) (dealt.hold ++ dealt.throw) card deal.hidden_before six in
        grind (arith, nat_tests, in_set_where (λ c. not (has (known_cards problem) c)) card unseen)

    apart : (card : ℕ) → has problem.hold card ≡ true → has dealt.hold card ≡ false
    apart card mine = grind (arith, nat_tests, theirs_unseen card, hold_known card mine)

    pub hands_dealt : IsDealt (hands_of problem dealt)
    hands_dealt = record {
      owner_four = setup.held;
      opponent_four = deal.held;
      distinct = distinct_append problem.hold dealt.hold hold_distinct (distinct_left dealt.hold dealt.throw deal.distinct) apart;
    }
