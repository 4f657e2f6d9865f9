-- The open deals: those whose hold the opponent may have, with a throw of two of the cards that it leaves.
use Rattle.std.proofs.Common.{◌≡◌, ◌↔◌, ℕ, Bool, true, false, not, ◌&&◌, List, [], ◌∷◌, length, refl, sym, ap, ◌∙◌, arith}
use Rattle.std.specs.List.{list_all}
use Rattle.std.proofs.lemmas.Bool.{and_from, or_right}
use Rattle.std.proofs.lemmas.Bool.Decides.{nat_tests}
use Rattle.std.proofs.lemmas.List.Folds.{list_all-append}
use Rattle.crib_cards.specs.Cards.{IsCard}
use Rattle.crib_cards.specs.Sets.{has, set_without_all, set_of, are_distinct, rank_counts}
use Rattle.crib_cards.specs.Order.{are_rising}
use Rattle.crib_cards.specs.Deals.{is_in_pack_order}
use Rattle.crib_cards.specs.declared.sides.Dealt.{Dealt}
use Rattle.crib_cards.proofs.Members.{AreAmong, AreCards, all_cards, all_has, all_from, distinct_append, distinct_apart, has_here}
use Rattle.crib_cards.proofs.SetFacts.{are_distinct-set_where, has-append, has-set_of, in_set_where, set_of-rising}
use Rattle.crib_cards.proofs.SetLemmas.{IsCardSet-set_where, has-set_where}
use Rattle.crib_problem.specs.Setup.{Setup, IsSetup, known_cards, unseen_of, fixed_cards, IsDealOf}
use Rattle.crib_problem.proofs.KnownLemmas.{unseen_count}
use Rattle.crib_know.specs.Knowledge.{played_events, their_ranks, least_value}
use Rattle.crib_know.specs.Hidden.{IsOpen, IsPossible, passes}
use Rattle.crib_know.proofs.AgreeingIsPassing.{passes_to}
use Rattle.crib_know.proofs.CardLists.{count_all_of, has_set_from}
use Rattle.crib_know.proofs.DealLists.{count_rest}
use Rattle.crib_know.proofs.Deals.{six_unseen, hold_unseen}
use Rattle.crib_know.proofs.FixedCards.{fixed_are_cards}
use Rattle.crib_know.proofs.PassingIsAgreeing.{passing_agrees}
use Rattle.crib_know.proofs.RecordTurns.{possible_led}
use Rattle.crib_sure.proofs.PointsOfDeals.{hidden}
use Rattle.crib_deals.specs.Private.Holds.{is_empty}
use Rattle.crib_deals.specs.Private.Sums.{IsHeld}
use Rattle.crib_deals.proofs.ThrowLists.{IsThrowOf}

-- whether the opponent may hold these cards, as far as cards are known: they are unseen, in pack order, and no fixed
-- card is left without them
abbrev pub may_hold : List ℕ → List ℕ → List ℕ → Bool
may_hold unseen fixed hold =
    (are_rising hold && list_all (has unseen) hold) && is_empty (set_without_all fixed hold)

rising_distinct : (cards : List ℕ) → are_rising cards ≡ true → AreCards cards → are_distinct cards ≡ true
rising_distinct cards rising are = rw (set_of-rising cards rising (all_cards cards are)) at (are_distinct-set_where (has cards))

throw_of : (cards throw : List ℕ) → length throw ≡ 2 → are_rising throw ≡ true → AreAmong cards throw → IsThrowOf cards throw
throw_of cards (a ∷ b ∷ []) two rising among =
    (a, b, refl, grind (arith, nat_tests, among a), grind (arith, nat_tests, among b), grind (arith, nat_tests, rising))
throw_of cards throw two rising among = absurd (omega (arith, two))

-- a set is empty if it has no card
none_there : (cards : List ℕ) → (is_empty cards ≡ true) ↔ ((card : ℕ) → has cards card ≡ true → ⊥)
unfolding is_empty
none_there [] = grind (arith, nat_tests)
none_there (first ∷ cards) = grind (arith, nat_tests, has_here first cards)

module _ {problem : Setup} (setup : IsSetup problem) where
  abbrev unseen : List ℕ
  unseen = unseen_of problem

  abbrev fixed : List ℕ
  fixed = set_of (fixed_cards problem)

  -- ---- the cards that a hold leaves
  module _ (hold : List ℕ) where
    abbrev left : List ℕ
    left = set_without_all unseen hold

    pub left_is : (card : ℕ) → has left card ≡ true → IsCard card × (has unseen card ≡ true) × (has hold card ≡ false)
    left_is card h = grind (arith, nat_tests, in_set_where (λ c. has unseen c && not (has hold c)) card h)

    module _ (may : may_hold unseen fixed hold ≡ true) where
      pub held : (are_rising hold ≡ true) × (list_all (has unseen) hold ≡ true) × (is_empty (set_without_all fixed hold) ≡ true)
      held = grind (arith, nat_tests, may)

      held_card : AreCards hold
      held_card card h = (in_set_where (λ c. not (has (known_cards problem) c)) card (all_has (has unseen) hold card held.1 h)).0

      pub is_held : length hold ≡ 4 → IsHeld unseen hold
      is_held four =
          record { four = four; set = IsCardSet-set_where _; rising = held.0; among = λ card. all_has (has unseen) hold card held.1 }

    pub left_forty_one : IsHeld unseen hold → length left ≡ 41
    left_forty_one is =
        let cards = all_cards hold (λ card h. (in_set_where (λ c. not (has (known_cards problem) c)) card (is.among card h)).0) in
        let split = count_rest (λ _. true) hold unseen (sym (set_of-rising hold is.rising cards)) is.set is.among in
        omega (arith, is.four, unseen_count problem setup, split, count_all_of hold, count_all_of unseen, count_all_of left)

    -- no fixed card is left exactly if each is held
    fixed_held : is_empty (set_without_all fixed hold) ≡ true → list_all (has hold) (fixed_cards problem) ≡ true
    fixed_held none = all_from (has hold) (fixed_cards problem) (λ card h.
        let is = fixed_are_cards problem setup card h in
        let left = has-set_where (λ c. has fixed c && not (has hold c)) card is in
        grind (arith, nat_tests, h, (none_there (set_without_all fixed hold)).0 none card, left, has-set_of (fixed_cards problem) card is))

    fixed_none : list_all (has hold) (fixed_cards problem) ≡ true → is_empty (set_without_all fixed hold) ≡ true
    fixed_none all = (none_there (set_without_all fixed hold)).1 (λ card h.
        let found = in_set_where (λ c. has fixed c && not (has hold c)) card h in
        grind (arith, nat_tests, found, in_set_where (has (fixed_cards problem)) card, all_has (has hold) (fixed_cards problem) card all))

  -- ---- an open deal
  -- a hold that the opponent may have, with a throw of two of the cards that it leaves
  abbrev pub IsFree : Dealt → Type 0
  IsFree dealt = (may_hold unseen fixed dealt.hold ≡ true) × (length dealt.hold ≡ 4) × IsThrowOf (left dealt.hold) dealt.throw

  module _ (dealt : Dealt) (order : is_in_pack_order dealt ≡ true) where
    thrown_rising : are_rising dealt.throw ≡ true
    thrown_rising = grind (arith, nat_tests, order)

    pub free_from : IsDealOf problem dealt → IsFree dealt
    free_from is = (
      grind (arith, nat_tests, order, all_from (has unseen) dealt.hold (hold_unseen problem setup dealt is), fixed_none dealt.hold is.fixed),
      is.deal.held,
      throw_of (left dealt.hold) dealt.throw is.deal.thrown thrown_rising (λ card h.
          let there = has-append dealt.hold dealt.throw card ∙ or_right _ _ h in
          let apart = distinct_apart dealt.hold dealt.throw card is.deal.distinct in
          has_set_from _ card (hidden setup is card there).0 (grind (arith, nat_tests, h, six_unseen problem setup dealt is card there, apart))),
    )

    pub deal_from : IsFree dealt → IsDealOf problem dealt
    deal_from free = let held = held dealt.hold free.0 in record {
      deal = record {
        held = free.1;
        thrown = ap length free.2.2;
        distinct = distinct_append dealt.hold dealt.throw (rising_distinct dealt.hold held.0 (held_card dealt.hold free.0))
            (rising_distinct dealt.throw thrown_rising (λ card h. (thrown_left card h).0)) (λ card is. grind (arith, nat_tests, is, thrown_left card));
        hidden_before = rw list_all-append (and_from _ _ held.1 (all_from (has unseen) dealt.throw (λ card h. (thrown_left card h).1)));
      };
      fixed = fixed_held dealt.hold held.2;
    }
      where
        thrown_left : (card : ℕ) → has dealt.throw card ≡ true → IsCard card × (has unseen card ≡ true) × (has dealt.hold card ≡ false)
        thrown_left card h =
            let throw = free.2 in
            left_is dealt.hold card (all_has (has (left dealt.hold)) dealt.throw card (rw throw.2 (grind (arith, nat_tests, throw))) h)

    pub open_to : IsOpen problem dealt → IsFree dealt
    open_to agrees = free_from agrees.0

    pub open_from : IsPossible problem (played_events problem) → passes (least_value problem (played_events problem)) (rank_counts (their_ranks
        (played_events problem))) dealt.hold ≡ true → IsFree dealt → IsOpen problem dealt
    open_from possible passes free =
        passing_agrees problem setup dealt (deal_from free) (played_events problem) (possible_led problem setup (played_events problem) possible)
        (passes_to (least_value problem (played_events problem)) (their_ranks (played_events problem)) dealt.hold passes)
