-- The points of the opponent's hand and of the crib, in a deal of a problem.
use Rattle.std.proofs.Common.{◌≡◌, ℕ, ◌+◌, ◌≤◌, true, false, not, List, [], ◌∷◌, ◌++◌, length-append, refl, ◌∙◌, inl, inr, arith}
use Rattle.std.specs.List.{All}
use Rattle.std.proofs.lemmas.Bool.{cases_Bool}
use Rattle.std.proofs.lemmas.Bool.Decides.{nat_tests}
use Rattle.crib_cards.specs.Cards.{IsCard}
use Rattle.crib_cards.specs.Deals.{six_cards}
use Rattle.crib_cards.specs.Sets.{are_distinct, has}
use Rattle.crib_cards.specs.declared.sides.Dealt.{Dealt}
use Rattle.crib_cards.proofs.Members.{all_cards, distinct_append, distinct_left, distinct_parts, distinct_right}
use Rattle.crib_cards.proofs.SetFacts.{has-append, in_set_where}
use Rattle.crib_show.specs.Demands.{IsMetByAll, IsMetByNone}
use Rattle.crib_show.specs.Show.{crib_points, hand_points, most_points}
use Rattle.crib_show.specs.declared.demands.Demand.{Demand}
use Rattle.crib_show.proofs.PossibleHands.{possible_crib_law, possible_hand_law}
use Rattle.crib_problem.specs.Setup.{Setup, IsSetup, IsDealOf, known_cards}
use Rattle.crib_problem.proofs.StartLemmas.{each_has}
use Rattle.crib_know.proofs.Deals.{six_unseen}
use Rattle.crib_sure.specs.Shows.{meets}

module _ {problem : Setup} {dealt : Dealt} (setup : IsSetup problem) (deal : IsDealOf problem dealt) where
  -- no card of the opponent is known to the owner
  pub hidden : (card : ℕ) → has (six_cards dealt) card ≡ true → IsCard card × (has (known_cards problem) card ≡ false)
  hidden card h = grind (arith, nat_tests, in_set_where (λ c. not (has (known_cards problem) c)) card (six_unseen problem setup dealt deal card h))

  -- known cards and cards of the opponent are different
  five : (known theirs : List ℕ) → are_distinct known ≡ true → are_distinct theirs ≡ true →
      ((card : ℕ) → has known card ≡ true → has (known_cards problem) card ≡ true) →
      ((card : ℕ) → has theirs card ≡ true → has (six_cards dealt) card ≡ true) →
      All IsCard (known ++ theirs) × (are_distinct (known ++ theirs) ≡ true)
  five known theirs apart distinct among held = (
    all_cards (known ++ theirs) (λ card h. elim (cases_Bool (has theirs card)) [
      | inl other ↦ (hidden card (held card other)).0
      | inr none ↦ each_has IsCard (known_cards problem) card setup.cards (among card (grind (arith, nat_tests, h, none, has-append known theirs card)))
    ]),
    distinct_append known theirs apart distinct (λ card h. grind (arith, nat_tests, among card h, held card, hidden card)),
  )

  pub few_hand : hand_points dealt.hold problem.starter ≤ most_points
  few_hand =
      let cards = five (problem.starter ∷ []) dealt.hold refl (distinct_left dealt.hold dealt.throw deal.deal.distinct)
      (λ card h. grind (arith, nat_tests, h)) (λ card h. grind (arith, nat_tests, h, has-append dealt.hold dealt.throw card)) in
      let possible = possible_hand_law dealt.hold problem.starter (record { are_cards = cards.0; four = deal.deal.held; distinct = cards.1 }) in
      grind (arith, nat_tests, possible)

  pub few_crib : crib_points (problem.thrown ++ dealt.throw) problem.starter ≤ most_points
  few_crib =
      let parts = distinct_parts problem.starter (problem.hold ++ problem.thrown) setup.distinct in
      let apart : are_distinct (problem.starter ∷ problem.thrown) ≡ true =
      grind (arith, nat_tests, parts.0, has-append problem.hold problem.thrown problem.starter, distinct_right problem.hold problem.thrown parts.1) in
      let cards = five (problem.starter ∷ problem.thrown) dealt.throw apart (distinct_right dealt.hold dealt.throw deal.deal.distinct)
      (λ card h. grind (arith, nat_tests, h, has-append problem.hold problem.thrown card))
      (λ card h. grind (arith, nat_tests, h, has-append dealt.hold dealt.throw card)) in
      let possible = possible_crib_law (problem.thrown ++ dealt.throw) problem.starter (record {
        are_cards = cards.0;
        four = length-append problem.thrown dealt.throw ∙ (λ i. setup.two_thrown i + deal.deal.thrown i);
        distinct = cards.1;
      }) in
      grind (arith, nat_tests, possible)

  -- a deal meets what each hand and crib meet, and misses what none meets
  pub all_meet : (demand : Demand) → IsMetByAll demand → meets problem demand dealt ≡ true
  all_meet demand all = all _ _ few_hand few_crib

  pub none_meets : (demand : Demand) → IsMetByNone demand → meets problem demand dealt ≡ false
  none_meets demand none = none _ _ few_hand few_crib
