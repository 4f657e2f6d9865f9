-- The holds of the open deals with four ranks, listed by the number of their suits.
use Rattle.std.proofs.Common.{◌≡◌, ℕ, zero, suc, ◌+◌, ◌*◌, ◌/◌, ◌%◌, ◌<◌, ◌≤◌, Bool, true, false, ◌&&◌, cond, ltb, Option, Some, None}
use Rattle.std.proofs.Common.{List, [], ◌∷◌, ◌++◌, length, length-append, map, slice_index, refl, sym, ap, ◌∙◌, arith}
use Rattle.std.specs.List.{AllByRecursion, list_all}
use Rattle.std.proofs.lemmas.Bool.{both_ways}
use Rattle.std.proofs.lemmas.Bool.Decides.{nat_tests}
use Rattle.std.proofs.lemmas.List.Sums.{sum_by-append, sum_by-cons}
use Rattle.crib_cards.specs.Cards.{IsRank, card_of, rank_of, suit_of}
use Rattle.crib_cards.specs.Order.{are_rising}
use Rattle.crib_cards.specs.Sets.{has, rank_counts, set_of, set_where, set_without_all}
use Rattle.crib_cards.specs.declared.sides.Dealt.{Dealt}
use Rattle.crib_cards.proofs.AllEntries.{all_both}
use Rattle.crib_cards.proofs.SetFacts.{are_rising-set_where}
use Rattle.crib_problem.specs.Setup.{Setup, IsSetup, unseen_of, fixed_cards}
use Rattle.crib_know.specs.Hidden.{passes_counts}
use Rattle.crib_know.specs.Knowledge.{Knowledge, played_events}
use Rattle.crib_know.proofs.AgreeingIsPassing.{passes_from}
use Rattle.crib_know.proofs.PassingIsAgreeing.{agrees_passes}
use Rattle.crib_deals.specs.declared.throws.Cribs.{Cribs}
use Rattle.crib_deals.specs.Deals.{Behind, IsBehind, behind_by}
use Rattle.crib_deals.specs.Exact.{AreExactly}
use Rattle.crib_deals.specs.Private.Holds.{AreListed, is_empty, join, left_by, pair_at, pair_of}
use Rattle.crib_deals.specs.Throws.{AreOfProblem}
use Rattle.crib_deals.specs.Private.Sums.{AreHeld}
use Rattle.crib_deals.specs.Private.Sums.{IsHeld}
use Rattle.crib_deals.specs.Throws.{passing_throws}
use Rattle.crib_deals.proofs.ExactCounts.{exactly_none, exactly_same}
use Rattle.crib_deals.proofs.NumberedDeals.{AreNumbered, all_below, next_below, none_below}
use Rattle.crib_deals.proofs.OpenDeals.{held, left_forty_one, may_hold, open_from, open_to}
use Rattle.crib_deals.proofs.OpenDeals as deals
use Rattle.crib_deals.proofs.ThrowLists.{all_throws, every_throw}

-- ---- four cards by the number of their suits
-- the four cards with these ranks whose suits have a number: its digits in base 4
abbrev pub hold_at : List ℕ → ℕ → List ℕ
hold_at ranks number =
    card_of (slice_index ranks 0) (number / 64 % 4) ∷ card_of (slice_index ranks 1) (number / 16 % 4)
    ∷ card_of (slice_index ranks 2) (number / 4 % 4) ∷ card_of (slice_index ranks 3) (number % 4) ∷ []

-- the number of the suits of four cards
abbrev pub suits_number : List ℕ → ℕ
suits_number hold =
    64 * suit_of (slice_index hold 0) + 16 * suit_of (slice_index hold 1) + 4 * suit_of (slice_index hold 2)
    + suit_of (slice_index hold 3)

suits_back : (ranks : List ℕ) (n : ℕ) → n < 256 → suits_number (hold_at ranks n) ≡ n
suits_back ranks n less = omega (arith, less)

-- cards with some ranks are those of their number
suits_at : (hold ranks : List ℕ) → length hold ≡ 4 → map rank_of hold ≡ ranks → (hold ≡ hold_at ranks (suits_number hold)) × (suits_number hold < 256)
suits_at (a ∷ b ∷ c ∷ d ∷ []) ranks four same = rw (sym same) (grind arith)
suits_at hold ranks four same = absurd (omega (arith, four))

ranks_at : (ranks : List ℕ) (n : ℕ) → length ranks ≡ 4 → AllByRecursion IsRank ranks → map rank_of (hold_at ranks n) ≡ ranks
ranks_at (a ∷ b ∷ c ∷ d ∷ []) n four are = grind (arith, are)
ranks_at ranks n four are = absurd (omega (arith, four))

-- ---- two pairs of cards
pub all_of_none : (cards hold : List ℕ) → is_empty cards ≡ true → is_empty (set_without_all cards hold) ≡ true
unfolding is_empty set_where
all_of_none [] hold none = refl
all_of_none (card ∷ cards) hold none = absurd (both_ways false refl none)

joined : (p q : Bool) (a b c d : ℕ) → join (cond p (Some (a ∷ b ∷ [])) None) (cond q (Some (c ∷ d ∷ [])) None)
    ≡ cond (p && (q && ltb b c)) (Some (a ∷ b ∷ c ∷ d ∷ [])) None
joined true true a b c d = refl
joined true false a b c d = refl
joined false q a b c d = refl

one_test : (ab bc cd a b c d : Bool) →
    ((ab && (a && b)) && ((cd && (c && d)) && bc)) ≡ ((ab && (bc && (cd && true))) && (a && (b && (c && (d && true)))))
one_test ab bc cd a b c d = grind (arith, nat_tests)

-- whether the cards of a hold are unseen, in pack order
abbrev are_held : List ℕ → List ℕ → Bool
are_held unseen hold = are_rising hold && list_all (has unseen) hold

chosen : (test : List ℕ → Bool) (cards hold : List ℕ) → cond (test cards) (Some cards) None ≡ Some hold → (hold ≡ cards) × (test hold ≡ true)
chosen test cards hold is = grind (arith, nat_tests, is)

unchosen : (test : Bool) (cards : List ℕ) → cond test (Some cards) None ≡ None → test ≡ false
unchosen test cards is = grind (arith, nat_tests, is)

pub not_held : (unseen fixed hold : List ℕ) → are_held unseen hold ≡ false → may_hold unseen fixed hold ≡ false
not_held unseen fixed hold fails = λ i. fails i && is_empty (set_without_all fixed hold)

module _ (unseen ranks : List ℕ) (front back : ℕ) (small : back < 16) where
  abbrev hold_here : List ℕ
  hold_here = hold_at ranks (16 * front + back)

  abbrev pub join_at : Option (List ℕ)
  join_at = join (pair_at unseen ranks 0 front) (pair_at unseen ranks 2 back)

  join_is : join_at ≡ cond (are_held unseen hold_here) (Some hold_here) None
  join_is =
      let suits : (front / 4 % 4 ≡ (16 * front + back) / 64 % 4) × (front % 4 ≡ (16 * front + back) / 16 % 4)
      × (back / 4 % 4 ≡ (16 * front + back) / 4 % 4) × (back % 4 ≡ (16 * front + back) % 4) =
      (omega (arith, small), omega (arith, small), omega (arith, small), omega (arith, small)) in
      let a = card_of (slice_index ranks 0) ((16 * front + back) / 64 % 4) in
      let b = card_of (slice_index ranks 1) ((16 * front + back) / 16 % 4) in
      let c = card_of (slice_index ranks 2) ((16 * front + back) / 4 % 4) in
      let d = card_of (slice_index ranks 3) ((16 * front + back) % 4) in
      (λ i. join (pair_of unseen (card_of (slice_index ranks 0) (suits.0 i)) (card_of (slice_index ranks 1) (suits.1 i)))
      (pair_of unseen (card_of (slice_index ranks 2) (suits.2 i)) (card_of (slice_index ranks 3) (suits.3 i))))
      ∙ joined _ _ a b c d
      ∙ (λ i. cond (one_test (ltb a b) (ltb b c) (ltb c d) (has unseen a) (has unseen b) (has unseen c) (has unseen d) i) (Some hold_here) None)

  pub some_joined : (hold : List ℕ) → join_at ≡ Some hold → (hold ≡ hold_here) × (are_held unseen hold ≡ true)
  some_joined hold is = chosen (are_held unseen) hold_here hold (sym join_is ∙ is)

  pub none_joined : join_at ≡ None → are_held unseen hold_here ≡ false
  none_joined is = unchosen (are_held unseen hold_here) hold_here (sym join_is ∙ is)

-- ---- the deals with some ranks that pass a test
abbrev pub IsTested : Behind → (List ℕ → List ℕ → Bool) → Dealt → Type 0
IsTested behind test dealt = IsBehind behind dealt × (test dealt.hold dealt.throw ≡ true)

module _ {problem : Setup} {know : Knowledge} {cribs : Cribs} (of : AreOfProblem problem know cribs) (ranks : List ℕ) where
  abbrev behind : Behind
  behind = behind_by problem ranks

  hold_numbered : (test : List ℕ → List ℕ → Bool) → AreNumbered (IsTested behind test) (λ dealt. dealt.hold) suits_number (hold_at ranks) 256
  hold_numbered test = record {
    few = λ dealt has. (suits_at dealt.hold ranks has.0.0.0.deal.held has.0.1).1;
    are = λ dealt has. (suits_at dealt.hold ranks has.0.0.0.deal.held has.0.1).0;
    back = suits_back ranks;
  }

  -- the test of what is known
  passes_is : (least : ℕ) (seen : List ℕ) → know.least ≡ least → know.ranks_seen ≡ seen → passes_counts know.least know.ranks_seen
      (rank_counts ranks) ≡ passes_counts least seen (rank_counts ranks)
  passes_is least seen one other = λ i. passes_counts (one i) (other i) (rank_counts ranks)

  pub none_passes : passes_counts know.least know.ranks_seen (rank_counts ranks) ≡ false → AreListed behind []
  none_passes none = record {
    held = tt;
    exact = λ test. exactly_none (λ dealt order has. both_ways _ ((λ i. passes_counts ((sym of.knows.knowledge i).least)
        ((sym of.knows.knowledge i).ranks_seen) (rank_counts (has.0.1 i))) ∙ none)
        (passes_from _ _ dealt.hold (agrees_passes problem of.knows.setup dealt has.0.0.0 (played_events problem) has.0.0)));
  }

  module _ (fixed : List ℕ) (fixed_is : fixed ≡ know.fixed) (hold : List ℕ) where
    here : may_hold cribs.unseen fixed hold ≡ may_hold (unseen_of problem) (set_of (fixed_cards problem)) hold
    here = λ i. may_hold (of.unseen_is i) ((fixed_is ∙ ap (λ (k : Knowledge). k.fixed) of.knows.knowledge) i) hold

    -- those with one hold: none, if it can't be held
    pub none_held : may_hold cribs.unseen fixed hold ≡ false → (test : List ℕ → List ℕ → Bool) →
        AreExactly (λ dealt. IsTested behind test dealt × (dealt.hold ≡ hold)) 0
    none_held fails test = exactly_none (λ dealt order has.
        both_ways _ (sym here ∙ fails) (rw has.1 at (open_to of.knows.setup dealt order has.0.0.0).0))

    module _ (may : may_hold cribs.unseen fixed hold ≡ true) (four : length hold ≡ 4) (same : map rank_of hold ≡ ranks) where
      may_here : may_hold (unseen_of problem) (set_of (fixed_cards problem)) hold ≡ true
      may_here = sym here ∙ may

      pub is_held : IsHeld (unseen_of problem) hold
      is_held = deals.is_held of.knows.setup hold may_here four

      -- otherwise the throws that it leaves
      pub some_held : passes_counts know.least know.ranks_seen (rank_counts ranks) ≡ true → (test : List ℕ → List ℕ → Bool) →
          AreExactly (λ dealt. IsTested behind test dealt × (dealt.hold ≡ hold)) (passing_throws (test hold) (set_without_all (unseen_of problem) hold))
      some_held passes test = exactly_same
          (λ dealt order has.
          let passing = (λ i. passes_counts ((sym of.knows.knowledge i).least) ((sym of.knows.knowledge i).ranks_seen) (rank_counts ((ap (map rank_of) has.0
          ∙ same) i))) ∙ passes in
          let open_deal = open_from of.knows.setup dealt order of.knows.possible passing (rw has.0 may_here, ap length has.0 ∙ four, rw has.0 has.1) in
          (((open_deal, ap (map rank_of) has.0 ∙ same), rw has.0 has.2), has.0))
          (λ dealt order has. (has.1, rw has.1 at (open_to of.knows.setup dealt order has.0.0.0).2, rw has.1 at has.0.1))
          (all_throws hold (held of.knows.setup hold may_here).0 (test hold) (set_without_all (unseen_of problem) hold) (are_rising-set_where _))

  -- ---- one number more
  module _ (fixed : List ℕ) (fixed_is : fixed ≡ know.fixed) {n : ℕ} (small : n < 256) {hold : List ℕ} (is : hold ≡ hold_at ranks n) (holds : List
      (List ℕ)) where
    next_other : may_hold cribs.unseen fixed hold ≡ false → (test : List ℕ → List ℕ → Bool) → AreExactly (λ dealt. IsTested behind test dealt ×
        (suits_number dealt.hold < n)) (left_by (unseen_of problem) test holds) →
        AreExactly (λ dealt. IsTested behind test dealt × (suits_number dealt.hold < n + 1)) (left_by (unseen_of problem) test holds)
    next_other fails test so_far =
        let more : left_by (unseen_of problem) test holds + 0 ≡ left_by (unseen_of problem) test holds = omega arith in
        rw more at (next_below (hold_numbered test) small so_far (exactly_same (λ dealt order has. (has.0, has.1 ∙ is)) (λ dealt order has. (
          has.0,
          has.1
              ∙ sym is,
        )) (none_held fixed fixed_is hold fails test)))

    module _ (ranked : AllByRecursion IsRank ranks) (four : length ranks ≡ 4) (passes : passes_counts know.least know.ranks_seen (rank_counts ranks) ≡ true)
        (may : may_hold cribs.unseen fixed hold ≡ true) where
      next_held : AreHeld (unseen_of problem) ranks holds → AreHeld (unseen_of problem) ranks (holds ++ hold ∷ [])
      next_held are = all_both (λ held. IsHeld (unseen_of problem) held × (map rank_of held ≡ ranks)) holds (hold ∷ []) are (
        (
          is_held fixed fixed_is hold may (ap length is) (ap (map rank_of) is ∙ ranks_at ranks n four ranked),
          ap (map rank_of) is
              ∙ ranks_at ranks n four ranked,
        ),
        tt,
      )

      next_same : (test : List ℕ → List ℕ → Bool) → AreExactly (λ dealt. IsTested behind test dealt × (suits_number dealt.hold < n)) (left_by
          (unseen_of problem) test holds) →
          AreExactly (λ dealt. IsTested behind test dealt × (suits_number dealt.hold < n + 1)) (left_by (unseen_of problem) test (holds ++ hold ∷ []))
      next_same test so_far =
          let value = λ (held : List ℕ). passing_throws (test held) (set_without_all (unseen_of problem) held) in
          let more : left_by (unseen_of problem) test holds + value hold ≡ left_by (unseen_of problem) test (holds ++ hold ∷ []) =
          omega (arith, sum_by-append value holds (hold ∷ []), sum_by-cons value hold []) in
          rw more at (next_below (hold_numbered test) small so_far
          (exactly_same (λ dealt order has. (has.0, has.1 ∙ is)) (λ dealt order has. (has.0, has.1 ∙ sym is)) (some_held fixed fixed_is hold may (ap length is)
          (ap (map rank_of) is ∙ ranks_at ranks n four ranked) passes test)))

-- ---- the holds with a smaller number, listed
pub record AreListedBelow (know : Knowledge) (cribs : Cribs) (ranks : List ℕ) (n : ℕ) (holds : List (List ℕ)) : Type 0 where
  pub few : length holds ≤ n
  pub held : (problem : Setup) → AreOfProblem problem know cribs → AreHeld (unseen_of problem) ranks holds
  pub exact : (problem : Setup) → AreOfProblem problem know cribs → (test : List ℕ → List ℕ → Bool) →
      AreExactly (λ dealt. IsTested (behind_by problem ranks) test dealt × (suits_number dealt.hold < n)) (left_by (unseen_of problem) test holds)

module _ (know : Knowledge) (cribs : Cribs) (ranks : List ℕ) where
  pub listed_none : AreListedBelow know cribs ranks 0 []
  listed_none = record { few = omega arith; held = λ problem of. tt; exact = λ problem of test. none_below (hold_numbered of ranks test) }

  pub listed_all : (holds : List (List ℕ)) → AreListedBelow know cribs ranks 256 holds → (problem : Setup) → AreOfProblem problem know cribs →
      AreListed (behind_by problem ranks) holds
  listed_all holds listed problem of =
      record { held = listed.held problem of; exact = λ test. all_below (hold_numbered of ranks test) (listed.exact problem of test) }

  module _ (fixed : List ℕ) (fixed_is : fixed ≡ know.fixed) where
    pub listed_other : {n : ℕ} → n < 256 → {hold : List ℕ} → hold ≡ hold_at ranks n → (holds : List (List ℕ)) → may_hold cribs.unseen fixed hold ≡ false →
        AreListedBelow know cribs ranks n holds → AreListedBelow know cribs ranks (n + 1) holds
    listed_other small is holds fails listed = record {
      few = let few = listed.few in omega (arith, few);
      held = listed.held;
      exact = λ problem of test. next_other of ranks fixed fixed_is small is holds fails test (listed.exact problem of test);
    }

    pub listed_held : {n : ℕ} → n < 256 → {hold : List ℕ} → hold ≡ hold_at ranks n → (holds : List (List ℕ)) → AllByRecursion IsRank ranks →
        length ranks ≡ 4 → passes_counts know.least know.ranks_seen (rank_counts ranks) ≡ true → may_hold cribs.unseen fixed hold ≡ true →
        AreListedBelow know cribs ranks n holds → AreListedBelow know cribs ranks (n + 1) (holds ++ hold ∷ [])
    listed_held small {hold} is holds ranked four passes may listed = record {
      few = let few = listed.few in omega (arith, few, length-append holds (hold ∷ []));
      held = λ problem of. next_held of ranks fixed fixed_is small is holds ranked four passes may (listed.held problem of);
      exact = λ problem of test. next_same of ranks fixed fixed_is small is holds ranked four passes may test (listed.exact problem of test);
    }

    -- some numbers at once, where the first two cards can't be held
    module _ (front : ℕ) (small : front < 16) (holds : List (List ℕ)) (none : pair_at cribs.unseen ranks 0 front ≡ None) where
      skip_one : (k : ℕ) → k < 16 → AreListedBelow know cribs ranks (16 * front + k) holds → AreListedBelow know cribs ranks (16 * front + suc k) holds
      skip_one k less listed =
          let more : 16 * front + k + 1 ≡ 16 * front + suc k = omega arith in
          let fails = none_joined cribs.unseen ranks front k less (λ i. join (none i) (pair_at cribs.unseen ranks 2 k)) in
          rw more at (listed_other (omega (arith, small, less)) refl holds (not_held cribs.unseen fixed (hold_at ranks (16 * front + k)) fails) listed)

      pub listed_skip : AreListedBelow know cribs ranks (16 * front) holds → (k : ℕ) → k ≤ 16 → AreListedBelow know cribs ranks (16 * front + k) holds
      listed_skip listed zero few = let same : 16 * front ≡ 16 * front + 0 = omega arith in rw same at listed
      listed_skip listed (suc k) few = skip_one k (omega (arith, few)) (listed_skip listed k (omega (arith, few)))

-- ---- all deals with some ranks
module _ {behind : Behind} {holds : List (List ℕ)} (setup : IsSetup behind.problem) (listed : AreListed behind holds) where
  -- 820 with each hold
  pub open_listed : AreExactly (IsBehind behind) (820 * length holds)
  open_listed = rw (all_left holds listed.held) at (exactly_same (λ dealt order has. has.0) (λ dealt order has. (has, refl)) (listed.exact
      (λ hold throw. true)))
    where
      all_left : (holds : List (List ℕ)) → AreHeld (unseen_of behind.problem) behind.ranks holds →
          left_by (unseen_of behind.problem) (λ hold throw. true) holds ≡ 820 * length holds
      all_left [] are = refl
      all_left (hold ∷ holds) are =
          let first = every_throw _ (left_forty_one setup hold are.0.0) in
          omega (
            arith,
            sum_by-cons (λ h. passing_throws (λ throw. true) (set_without_all (unseen_of behind.problem) h)) hold holds,
            first,
            all_left holds are.1,
          )
