-- The points that the search finds among the throws are the greatest of the hidden deals that agree.
use Rattle.std.proofs.Common.{◌≡◌, ◌≢◌, ◌⊎◌, ℕ, ◌+◌, ◌<◌, ◌≤◌, Bool, true, false, not, ◌||◌, List, [], ◌∷◌, refl, sym, ap, ◌∙◌}
use Rattle.std.proofs.Common.{inl, inr, subst, arith}
use Rattle.std.proofs.lemmas.Bool.{cases_lt, false_from_ne_true, and_parts, and_from, both_ways, ne_eqb}
use Rattle.std.proofs.lemmas.Bool.{le-leb, leb-true}
use Rattle.std.proofs.lemmas.Bool.Decides.{nat_tests}
use Rattle.std.proofs.Math.Nat.{le_trans}
use Rattle.crib_cards.specs.Cards.{IsRank, card_of, rank_of, suit_of}
use Rattle.crib_cards.specs.Sets.{has, set_without, IsCardSet}
use Rattle.crib_cards.specs.declared.sides.Dealt.{Dealt}
use Rattle.crib_cards.proofs.LowestCard.{in_set}
use Rattle.crib_cards.proofs.SetFacts.{IsCardSet-set_without, has-set_without}
use Rattle.crib_show.specs.Private.Extremes.{crib_with, most_crib_suits, most_suit_points, plain_crib, ranks_from}
use Rattle.crib_show.specs.Private.Extremes.{suit_points}
use Rattle.crib_show.specs.Private.Totals.{NoneScores, SomeScores, card_scores, target_points, throw_scores, without_throw}
use Rattle.crib_show.specs.Show.{crib_points, plain_of_ranks}
use Rattle.crib_show.specs.Worst.{AgreesInShow, HasDeal, IsGreatestCrib, IsGreatestTotal, hidden_crib, hidden_hand, hidden_total}
use Rattle.crib_show.specs.declared.deals.WorstShow.{WorstShow}
use Rattle.crib_show.specs.declared.worst.totals.Target.{Target}
use Rattle.crib_show.specs.declared.worst.totals.Target.TheVariants.{Crib, CribAndHand}
use Rattle.crib_show.proofs.CribLemmas.{deal_with, ordered, suits_most, throw_beside}
use Rattle.crib_show.proofs.Exchange.{IsHold, deal_of, held_in, hold_of, throw_of}
use Rattle.crib_show.proofs.HandLemmas.{most_held, no_more, value}
use Rattle.crib_show.proofs.Throws.{MayThrow, may_throw, crib_of_ranks}
use Rattle.crib_show.proofs.PairTrials.{card_back, rank_back}

-- ---- one of four suits

four_any : (f : ℕ → Bool) → (f 0 || f 1 || f 2 || f 3) ≡ true → (suit : ℕ) × (suit < 4) × (f suit ≡ true)
four_any f any = search (arith, nat_tests)

four_from : (f : ℕ → Bool) (suit : ℕ) → suit < 4 → f suit ≡ true → (f 0 || f 1 || f 2 || f 3) ≡ true
four_from f suit small is = grind (arith, nat_tests)

module _ (worst : WorstShow) where
  -- ---- two cards that give enough
  record Found (aim : Target) (wanted : ℕ) : Type 0 where
    x : ℕ
    y : ℕ
    may : MayThrow worst x y
    gives : wanted ≤ target_points worst aim x y

  found : (aim : Target) (suit_bonus wanted : ℕ) → SomeScores worst aim suit_bonus wanted → Found aim wanted
  found aim suit_bonus wanted give =
      let p = give.0 in
      let q = give.1 in
      let outer = and_parts _ _ give.4 in
      let room = (and_parts _ _ outer.0).1 in
      let first = four_any (λ s. card_scores worst aim wanted (card_of p s) q) outer.1 in
      let x = card_of p first.0 in
      let with_first = and_parts _ _ first.2 in
      let second = four_any (λ t. throw_scores worst aim wanted x (card_of q t)) with_first.1 in
      let y = card_of q second.0 in
      let rank_x : rank_of x ≡ p = rank_back p first.0 first.1 give.2.0 in
      let rank_y : rank_of y ≡ q = rank_back q second.0 second.1 give.3.0 in
      let both = and_parts _ _ second.2 in
      let free = and_parts _ _ both.0 in
      record {
        x = x;
        y = y;
        may = may_throw worst x y p q rank_x rank_y with_first.0 free.0 free.1 room;
        gives = leb-true wanted (target_points worst aim x y) both.1;
      }

  -- if no two ranks give enough points, no two cards do, the lower rank first
  too_little : (aim : Target) (suit_bonus wanted x y : ℕ) → NoneScores worst aim suit_bonus wanted → MayThrow worst x y → rank_of x ≤ rank_of y →
      IsRank (rank_of x) → IsRank (rank_of y) →
      target_points worst aim x y ≤ plain_crib worst (rank_of x) (rank_of y) + most_crib_suits worst (rank_of x) (rank_of y) + suit_bonus →
      target_points worst aim x y < wanted
  too_little aim suit_bonus wanted x y none may order range_x range_y few =
      let p = rank_of x in
      let q = rank_of y in
      elim (cases_lt (target_points worst aim x y) wanted) [
        | inl less ↦ less
        | inr reached ↦
            let here : throw_scores worst aim wanted x y ≡ true = and_from _ _ (and_from _ _ may.second_free (ap not (ne_eqb x y may.apart)))
            (le-leb wanted (target_points worst aim x y) reached) in
            let with_x : card_scores worst aim wanted x q ≡ true = and_from _ _ may.first_free
            (four_from (λ t. throw_scores worst aim wanted x (card_of q t)) (suit_of y) (omega arith)
            (ap (throw_scores worst aim wanted x) (card_back y) ∙ here)) in
            absurd (both_ways _ (none p q range_x range_y order) (and_from _ _ (and_from _ _
            (le-leb wanted (plain_crib worst p q + most_crib_suits worst p q + suit_bonus) (le_trans reached few))
            may.room) (four_from (λ s. card_scores worst aim wanted (card_of p s) q) (suit_of x) (omega arith)
            (ap (λ k. card_scores worst aim wanted k q) (card_back x) ∙ with_x))))
      ]

  module _ (unseen_set : IsCardSet worst.unseen) where
    -- the crib with two cards thrown has at most the points of their ranks and the most of their suits
    crib_low : (x y : ℕ) → MayThrow worst x y → crib_points (crib_with worst x y) worst.starter
        ≤ plain_crib worst (rank_of x) (rank_of y) + most_crib_suits worst (rank_of x) (rank_of y)
    crib_low x y may = omega (arith, crib_of_ranks worst x y, suits_most worst unseen_set x y may)

    -- ---- the greatest crib
    pub crib_greatest : HasDeal worst → (bound most : ℕ) →
        ((dealt : Dealt) → AgreesInShow worst dealt → hidden_crib worst dealt ≤ bound) →
        (most ≡ 0) ⊎ SomeScores worst Crib 0 most → (most ≡ bound) ⊎ NoneScores worst Crib 0 (most + 1) → IsGreatestCrib worst most
    crib_greatest some bound most cribs give none = record {
      some = elim give [
        | inl zero_is ↦ (some.0, some.1, omega (arith, all some.0 some.1, zero_is))
        | inr two ↦
            let pair = found Crib 0 most two in
            let deal = deal_with worst unseen_set some pair.x pair.y pair.may in
            let dealt : Dealt = record { hold = deal.0; throw = pair.x ∷ pair.y ∷ [] } in
            (dealt, deal.1, omega (arith, all dealt deal.1, pair.gives))
      ];
      all = all;
    }
      where
        all : (dealt : Dealt) → AgreesInShow worst dealt → hidden_crib worst dealt ≤ most
        all dealt agrees = elim none [
          | inl is ↦ omega (arith, is, cribs dealt agrees)
          | inr less ↦
              let thrown = ordered worst unseen_set dealt.hold dealt.throw agrees in
              let few : target_points worst Crib thrown.x thrown.y < most + 1 =
              too_little Crib 0 (most + 1) thrown.x thrown.y less thrown.may thrown.order thrown.range_x thrown.range_y
              (omega (arith, crib_low thrown.x thrown.y thrown.may)) in
              omega (arith, thrown.crib, few)
        ]

    -- ---- holds beside a throw
    module _ (fixed_set : IsCardSet worst.fixed) where
      abbrev four : List ℕ
      four = ranks_from 1 worst.ranks

      module _ (x y : ℕ) where
        abbrev beside : WorstShow
        beside = without_throw worst x y

        hold_beside : (hold : List ℕ) → IsHold worst hold → has hold x ≡ false → has hold y ≡ false → IsHold beside hold
        hold_beside hold is out_x out_y = record {
          four = is.four;
          distinct = is.distinct;
          unseen = λ k h.
              let card = in_set worst.unseen k unseen_set (is.unseen k h) in
              let apart = λ (z : ℕ) (out : has hold z ≡ false) (same : k ≡ z). both_ways _ out (subst (λ j. has hold j ≡ true) same h) in
              let outer = has-set_without (set_without worst.unseen x) y k card in
              grind (arith, nat_tests, outer, has-set_without worst.unseen x k card, is.unseen k h, apart x out_x, apart y out_y);
          ranks_held = is.ranks_held;
          fixed_held = is.fixed_held;
        }

        in_beside : (k : ℕ) → has beside.unseen k ≡ true → (has worst.unseen k ≡ true) × (k ≢ x) × (k ≢ y)
        in_beside k h =
            let card = in_set beside.unseen k (IsCardSet-set_without (set_without worst.unseen x) y) h in
            grind (arith, nat_tests, has-set_without (set_without worst.unseen x) y k card, has-set_without worst.unseen x k card, h)

        -- a hold that gets the most points that suits can add, and thrown cards that are not in it
        record Best : Type 0 where
          hold : List ℕ
          is_hold : IsHold worst hold
          out_x : has hold x ≡ false
          out_y : has hold y ≡ false
          suits : suit_points hold worst.starter ≡ most_suit_points beside four

        beside_set : IsCardSet beside.unseen
        beside_set = IsCardSet-set_without (set_without worst.unseen x) y

        best : (hold : List ℕ) → IsHold worst hold → has hold x ≡ false → has hold y ≡ false → Best
        best hold is out_x out_y =
            let most = most_held beside beside_set fixed_set (record { hold = hold; is_hold = hold_beside hold is out_x out_y }) in
            record {
              hold = most.hold;
              is_hold = record {
                four = most.is_hold.four;
                distinct = most.is_hold.distinct;
                unseen = λ k h. (in_beside k (most.is_hold.unseen k h)).0;
                ranks_held = most.is_hold.ranks_held;
                fixed_held = most.is_hold.fixed_held;
              };
              out_x = false_from_ne_true _ (λ h. (in_beside x (most.is_hold.unseen x h)).1 refl);
              out_y = false_from_ne_true _ (λ h. (in_beside y (most.is_hold.unseen y h)).2 refl);
              suits = most.suits;
            }

        suits_below : (hold : List ℕ) → IsHold worst hold → has hold x ≡ false → has hold y ≡ false → suit_points hold worst.starter
            ≤ most_suit_points beside four
        suits_below hold is out_x out_y =
            let here = hold_beside hold is out_x out_y in
            no_more beside beside_set fixed_set (record { hold = hold; is_hold = here }) hold here

        best_of_throw : HasDeal worst → MayThrow worst x y → Best
        best_of_throw some may =
            let deal = deal_with worst unseen_set some x y may in
            let dealt : Dealt = record { hold = deal.0; throw = x ∷ y ∷ [] } in
            let apart = (throw_of worst dealt deal.1).apart in
            best deal.0 (hold_of worst dealt deal.1) (grind (arith, nat_tests, apart x)) (grind (arith, nat_tests, apart y))

        -- the deal of this hold and throw
        best_deal : MayThrow worst x y → (of : Best) → AgreesInShow worst (record { hold = of.hold; throw = x ∷ y ∷ [] })
        best_deal may of = deal_of worst of.hold (x ∷ y ∷ []) of.is_hold (throw_beside worst unseen_set x y may of.hold of.out_x of.out_y)

      -- ---- the greatest sum
      pub total_greatest : HasDeal worst → (crib plain suits most : ℕ) → IsGreatestCrib worst crib →
          plain ≡ plain_of_ranks (rank_of worst.starter ∷ four) → suits ≡ most_suit_points worst four →
          (most ≡ 0) ⊎ SomeScores worst (CribAndHand four) suits most →
          (most ≡ crib + suits) ⊎ NoneScores worst (CribAndHand four) suits (most + 1) → IsGreatestTotal worst (plain + most)
      total_greatest some crib plain suits most cribs is_plain is_suits give none = record {
        some = elim give [
          | inl zero_is ↦ (some.0, some.1, omega (arith, hand_is some.0 some.1, zero_is, all some.0 some.1))
          | inr two ↦
              let pair = found (CribAndHand four) suits most two in
              let of = best_of_throw pair.x pair.y some pair.may in
              let dealt : Dealt = record { hold = of.hold; throw = pair.x ∷ pair.y ∷ [] } in
              let agrees = best_deal pair.x pair.y pair.may of in (
                dealt,
                agrees,
                omega (arith, hand_is dealt agrees, of.suits, all dealt agrees, pair.gives),
              )
        ];
        all = all;
      }
        where
          hand_is : (dealt : Dealt) → AgreesInShow worst dealt → hidden_hand worst dealt ≡ plain + suit_points dealt.hold worst.starter
          hand_is dealt agrees = subst (λ k. hidden_hand worst dealt ≡ k + suit_points dealt.hold worst.starter) (sym is_plain)
              (value worst unseen_set fixed_set (held_in worst some) dealt.hold (hold_of worst dealt agrees))

          suits_few : (hold : List ℕ) → IsHold worst hold → suit_points hold worst.starter ≤ suits
          suits_few hold is = subst (λ k. suit_points hold worst.starter ≤ k) (sym is_suits) (no_more worst unseen_set fixed_set (held_in worst some) hold is)

          all : (dealt : Dealt) → AgreesInShow worst dealt → hidden_total worst dealt ≤ plain + most
          all dealt agrees = elim none [
            | inl is ↦ omega (arith, hand_is dealt agrees, suits_few dealt.hold (hold_of worst dealt agrees), cribs.all dealt agrees, is)
            | inr less ↦
                let thrown = ordered worst unseen_set dealt.hold dealt.throw agrees in
                let of = best_of_throw thrown.x thrown.y some thrown.may in
                let few : target_points worst (CribAndHand four) thrown.x thrown.y < most + 1 =
                too_little (CribAndHand four) suits (most + 1) thrown.x thrown.y less thrown.may thrown.order thrown.range_x thrown.range_y
                (omega (arith, crib_low thrown.x thrown.y thrown.may, of.suits, suits_few of.hold of.is_hold)) in
                let suits_here = suits_below thrown.x thrown.y dealt.hold (hold_of worst dealt agrees) thrown.out_x thrown.out_y in
                omega (arith, hand_is dealt agrees, thrown.crib, suits_here, few)
          ]
