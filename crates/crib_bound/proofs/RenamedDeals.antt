-- Deals whose cards have other names.
use Rattle.std.proofs.Common.{◌≡◌, ℕ, ◌≤◌, Bool, true, false, not, eqb, ◌&&◌, List, length, count_by}
use Rattle.std.proofs.Common.{refl, sym, ap, ◌∙◌, inl, inr, subst, arith}
use Rattle.std.proofs.lemmas.Bool.{and_from, and_parts, both_ways, cases_Bool, eqb-true, eq-eqb, or_cases, or_right, false_from_ne_true}
use Rattle.std.proofs.lemmas.Bool.Decides.{nat_tests}
use Rattle.crib_cards.specs.Cards.{IsCard, pack}
use Rattle.crib_cards.specs.Deals.{is_in_pack_order, six_cards}
use Rattle.crib_cards.specs.Order.{are_rising}
use Rattle.crib_cards.specs.Sets.{has, are_distinct, set_where}
use Rattle.crib_cards.specs.declared.sides.Dealt.{Dealt}
use Rattle.crib_cards.proofs.Members.{AreAmong, all_cards, all_from, all_has, distinct_append, distinct_apart, distinct_left, distinct_right}
use Rattle.crib_cards.proofs.SetCounts.{count_by-set_of, length-count_all}
use Rattle.crib_cards.proofs.SetFacts.{are_distinct-set_where, are_rising-set_where, has-append, in_set_where, set_of-rising}
use Rattle.crib_cards.proofs.SetLemmas.{set_where_agree}
use Rattle.crib_problem.specs.Setup.{Setup, IsSetup, IsDealOf, fixed_cards, known_cards, unseen_of}
use Rattle.crib_know.proofs.CardLists.{count_filter, count_here, found_by, has_range_from, has_set_from}
use Rattle.crib_know.proofs.Deals.{six_unseen, hold_unseen}
use Rattle.crib_bound.proofs.AgreeingDeals.{both_true}
use Rattle.crib_bound.proofs.Swaps.{AreFreeCards, IsRenaming}

-- the unseen cards that aren't fixed
abbrev pub free_cards : Setup → List ℕ
free_cards problem = set_where (λ card. has (unseen_of problem) card && not (has (fixed_cards problem) card))

pub free_parts : (problem : Setup) (card : ℕ) → has (free_cards problem) card ≡ true →
    IsCard card × (has (unseen_of problem) card ≡ true) × (has (fixed_cards problem) card ≡ false)
free_parts problem card h =
    let found = in_set_where (λ c. has (unseen_of problem) c && not (has (fixed_cards problem) c)) card h in
    (found.0, grind (arith, nat_tests, found.1), grind (arith, nat_tests, found.1))

pub free_from_parts : (problem : Setup) (card : ℕ) → has (unseen_of problem) card ≡ true → has (fixed_cards problem) card ≡ false →
    has (free_cards problem) card ≡ true
free_from_parts problem card unseen loose =
    has_set_from (λ c. has (unseen_of problem) c && not (has (fixed_cards problem) c)) card
    (in_set_where (λ c. not (has (known_cards problem) c)) card unseen).0 (and_from _ _ unseen (ap not loose))

pub free_are : (problem : Setup) → AreFreeCards (free_cards problem) (free_cards problem)
free_are problem card h = (h, has_range_from 0 52 card (omega arith) (free_parts problem card h).0)

-- the cards whose names are in a list
abbrev pub named : (ℕ → ℕ) → List ℕ → List ℕ
named name cards = set_where (λ card. has cards (name card))

-- the deal whose cards have names in a deal
abbrev pub pulled : (ℕ → ℕ) → Dealt → Dealt
pulled name dealt = record { hold = named name dealt.hold; throw = named name dealt.throw }

count_where : (q p : ℕ → Bool) → count_by q (set_where p) ≡ count_by (λ card. p card && q card) pack
unfolding set_where
count_where q p = count_filter q p pack

pub pulled_order : (name : ℕ → ℕ) (dealt : Dealt) → is_in_pack_order (pulled name dealt) ≡ true
pulled_order name dealt = and_from _ _ (are_rising-set_where _) (are_rising-set_where _)

module _ {problem : Setup} (setup : IsSetup problem) {name : ℕ → ℕ} (is : IsRenaming (free_cards problem) name) where
  abbrev unseen : List ℕ
  unseen = unseen_of problem

  unseen_card : (card : ℕ) → has unseen card ≡ true → IsCard card
  unseen_card card h = (in_set_where (λ c. not (has (known_cards problem) c)) card h).0

  -- a name is unseen exactly if the card is
  name_unseen : (card : ℕ) → has unseen (name card) ≡ true → has unseen card ≡ true
  name_unseen card h = elim (cases_Bool (has (free_cards problem) card)) [
    | inl free ↦ (free_parts problem card free).1
    | inr out ↦ subst (λ (k : ℕ). has unseen k ≡ true) (is.kept card out) h
  ]

  pub has_named : (cards : List ℕ) → AreAmong unseen cards → (card : ℕ) → has (named name cards) card ≡ has cards (name card)
  has_named cards among card =
      both_true _ _ (λ h. (in_set_where (λ c. has cards (name c)) card h).1)
      (λ h. has_set_from (λ c. has cards (name c)) card (unseen_card card (name_unseen card (among (name card) h))) h)

  pub count_named : (q : ℕ → Bool) (cards : List ℕ) → AreAmong unseen cards → are_distinct cards ≡ true → ((card : ℕ) → q (name card) ≡ q card) →
      count_by q (named name cards) ≡ count_by q cards
  count_named q cards among distinct same =
      count_where q (λ card. has cards (name card))
      ∙ (λ i. count_by (λ card. has cards (name card) && sym (same card) i) pack)
      ∙ is.counts (λ card. has cards card && q card)
      ∙ sym (count_where q (has cards))
      ∙ count_by-set_of q cards distinct (λ card h. unseen_card card (among card h))

  pub length_named : (cards : List ℕ) → AreAmong unseen cards → are_distinct cards ≡ true → length (named name cards) ≡ length cards
  length_named cards among distinct =
      length-count_all (named name cards) ∙ count_named (λ card. true) cards among distinct (λ card. refl) ∙ sym (length-count_all cards)

  -- some card has each name
  name_of : (card : ℕ) → IsCard card → (other : ℕ) × (name other ≡ card)
  name_of card of_pack =
      let one = is.counts (λ k. eqb k card) in
      let some = found_by (λ k. eqb (name k) card) pack (subst (λ (n : ℕ). 1 ≤ n) (sym one)
      (count_here (λ k. eqb k card) pack card (has_range_from 0 52 card (omega arith) of_pack) (eq-eqb card card refl))) in
      (some.card, eqb-true (name some.card) card some.passes)

  module _ (dealt : Dealt) (deal : IsDealOf problem dealt) where
    held_unseen : AreAmong unseen dealt.hold
    held_unseen card h = hold_unseen problem setup dealt deal card h

    thrown_unseen : AreAmong unseen dealt.throw
    thrown_unseen card h = six_unseen problem setup dealt deal card (has-append dealt.hold dealt.throw card ∙ or_right _ _ h)

    pub pulled_has : (card : ℕ) → has (pulled name dealt).hold card ≡ has dealt.hold (name card)
    pulled_has card = has_named dealt.hold held_unseen card

    pub pulled_throws : (card : ℕ) → has (pulled name dealt).throw card ≡ has dealt.throw (name card)
    pulled_throws card = has_named dealt.throw thrown_unseen card

    pub pulled_count : (q : ℕ → Bool) → ((card : ℕ) → q (name card) ≡ q card) → count_by q (pulled name dealt).hold ≡ count_by q dealt.hold
    pulled_count q same = count_named q dealt.hold held_unseen (distinct_left dealt.hold dealt.throw deal.deal.distinct) same

    pub pulled_deal : IsDealOf problem (pulled name dealt)
    pulled_deal = record {
      deal = record {
        held = length_named dealt.hold held_unseen (distinct_left dealt.hold dealt.throw deal.deal.distinct) ∙ deal.deal.held;
        thrown = length_named dealt.throw thrown_unseen (distinct_right dealt.hold dealt.throw deal.deal.distinct) ∙ deal.deal.thrown;
        distinct = distinct_append (named name dealt.hold) (named name dealt.throw) (are_distinct-set_where _) (are_distinct-set_where _)
            (λ card h. pulled_throws card ∙ distinct_apart dealt.hold dealt.throw (name card) deal.deal.distinct (sym (pulled_has card) ∙ h));
        hidden_before = all_from (has unseen) (six_cards (pulled name dealt)) (λ card h.
            name_unseen card (elim (or_cases _ _ (sym (has-append (named name dealt.hold) (named name dealt.throw) card) ∙ h)) [
              | inl held ↦ held_unseen (name card) (sym (pulled_has card) ∙ held)
              | inr thrown ↦ thrown_unseen (name card) (sym (pulled_throws card) ∙ thrown)
            ]));
      };
      fixed = all_from (has (named name dealt.hold)) (fixed_cards problem) (λ card h.
          pulled_has card
          ∙ ap (has dealt.hold) (is.kept card (false_from_ne_true _ (λ free. both_ways _ (free_parts problem card free).2 h)))
          ∙ all_has (has dealt.hold) (fixed_cards problem) card deal.fixed h);
    }

  -- two sets are the same if they have the same names
  same_named : (cards others : List ℕ) → AreAmong unseen cards → AreAmong unseen others → are_rising cards ≡ true → are_rising others ≡ true →
      named name cards ≡ named name others → cards ≡ others
  same_named cards others among also rising too same =
      sym (set_of-rising cards rising (all_cards cards (λ card h. unseen_card card (among card h))))
      ∙ set_where_agree (has cards) (has others) (λ card of_pack. let one = name_of card of_pack in
      ap (has cards) (sym one.1) ∙ sym (has_named cards among one.0) ∙ ap (λ (list : List ℕ). has list one.0) same ∙ has_named others also one.0
      ∙ ap (has others) one.1)
      ∙ set_of-rising others too (all_cards others (λ card h. unseen_card card (also card h)))

  pub pulled_apart : (dealt other : Dealt) → IsDealOf problem dealt → IsDealOf problem other → is_in_pack_order dealt ≡ true →
      is_in_pack_order other ≡ true → pulled name dealt ≡ pulled name other → dealt ≡ other
  pulled_apart dealt other deal also order too same =
      let orders = and_parts _ _ order in
      let others = and_parts _ _ too in
      let holds = same_named dealt.hold other.hold (held_unseen dealt deal) (held_unseen other also) orders.0 others.0
      (ap (λ (d : Dealt). d.hold) same) in
      let throws = same_named dealt.throw other.throw (thrown_unseen dealt deal) (thrown_unseen other also) orders.1 others.1
      (ap (λ (d : Dealt). d.throw) same) in
      λ i. record { hold = holds i; throw = throws i }

pub pulled_twice : {problem : Setup} (setup : IsSetup problem) (name other : ℕ → ℕ) → IsRenaming (free_cards problem) other → (dealt : Dealt) →
    IsDealOf problem dealt → pulled name (pulled other dealt) ≡ pulled (λ card. other (name card)) dealt
pulled_twice setup name other is dealt deal =
    let holds = set_where_agree (λ card. has (named other dealt.hold) (name card)) (λ card. has dealt.hold (other (name card)))
    (λ card of_pack. pulled_has setup is dealt deal (name card)) in
    let throws = set_where_agree (λ card. has (named other dealt.throw) (name card)) (λ card. has dealt.throw (other (name card)))
    (λ card of_pack. pulled_throws setup is dealt deal (name card)) in
    λ i. record { hold = holds i; throw = throws i }
