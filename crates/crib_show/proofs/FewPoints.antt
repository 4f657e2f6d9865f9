-- Five cards have at most 102 points, whatever they are.
use Rattle.std.proofs.Common.{◌≡◌, ℕ, zero, suc, ◌+◌, ◌≤◌, Bool, cond, eqb, List, [], ◌∷◌, ◌++◌, length, length-append, map, ap, sym, subst, ◌∙◌, arith}
use Rattle.std.specs.List.{AllByRecursion}
use Rattle.std.proofs.lemmas.Bool.Decides.{nat_tests}
use Rattle.std.proofs.lemmas.List.{length-map, map-append}
use Rattle.crib_cards.specs.Cards.{IsRank, rank_of, rank_value}
use Rattle.crib_cards.specs.Sets.{IsCardSet}
use Rattle.crib_cards.specs.declared.sides.Dealt.{Dealt}
use Rattle.crib_cards.proofs.AllEntries.{all_both}
use Rattle.crib_cards.proofs.LowestCard.{in_set}
use Rattle.crib_cards.proofs.Members.{all_cards}
use Rattle.crib_show.specs.Show.{crib_points, hand_flush, hand_points, plain_points}
use Rattle.crib_show.specs.Worst.{AgreesInShow, AreOwnPoints, hidden_crib, hidden_hand}
use Rattle.crib_show.specs.declared.deals.OwnPoints.{OwnPoints}
use Rattle.crib_show.specs.declared.deals.WorstShow.{WorstShow}
use Rattle.crib_show.proofs.Exchange.{hold_of, throw_of}
use Rattle.crib_show.proofs.FifteenLemmas.{fifteens_among, fifteens_among-points}
use Rattle.crib_show.proofs.RankLaw.{ranks_of_cards}
use Rattle.crib_show.proofs.RankTables.{IsCounted-ranks}

-- how many choices there are of so many cards
abbrev doubled : ℕ → ℕ
doubled zero = 1
doubled (suc n) = doubled n + doubled n

few_fifteens : (ranks : List ℕ) (sum : ℕ) → fifteens_among ranks sum ≤ doubled (length ranks)
few_fifteens [] sum = one (eqb sum 15)
  where
    one : (b : Bool) → cond b 1 0 ≤ 1
    one b = grind (arith, nat_tests)
few_fifteens (rank ∷ ranks) sum = omega (arith, few_fifteens ranks (sum + rank_value rank), few_fifteens ranks sum)

few_plain : (cards : List ℕ) → AllByRecursion IsRank (map rank_of cards) → length cards ≡ 5 → plain_points cards ≤ 96
few_plain cards are five =
    let ranks = map rank_of cards in
    let long = length-map cards rank_of ∙ five in
    let counted = IsCounted-ranks ranks are long in
    let fifteens : fifteens_among ranks 0 ≤ 32 = subst (λ n. fifteens_among ranks 0 ≤ doubled n) long (few_fifteens ranks 0) in
    omega (arith, fifteens_among-points ranks, fifteens, counted.pairs, counted.runs, counted.few_pairs, counted.few_runs)

few_flush : (cards : List ℕ) (starter : ℕ) → hand_flush cards starter ≤ 5
few_flush [] starter = omega arith
few_flush (card ∷ cards) starter = grind (arith, nat_tests)

few_hand : (cards : List ℕ) (starter : ℕ) → AllByRecursion IsRank (map rank_of (starter ∷ cards)) → length cards ≡ 4 → hand_points cards starter ≤ 102
unfolding hand_points
few_hand cards starter are four = grind (arith, nat_tests, few_plain (starter ∷ cards) are (ap suc four), few_flush cards starter)

few_crib : (cards : List ℕ) (starter : ℕ) → AllByRecursion IsRank (map rank_of (starter ∷ cards)) → length cards ≡ 4 → crib_points cards starter ≤ 102
unfolding crib_points
few_crib cards starter are four = grind (arith, nat_tests, few_plain (starter ∷ cards) are (ap suc four))

-- ---- the hands and cribs of a show
module _ {worst : WorstShow} (set : IsCardSet worst.unseen) {own : OwnPoints} (are : AreOwnPoints worst.starter worst.own_hold worst.own_throw own)
    (dealt : Dealt) (agrees : AgreesInShow worst dealt) where
  pub few_hidden_hand : hidden_hand worst dealt ≤ 102
  few_hidden_hand = few_hand dealt.hold worst.starter
      (are.are_ranks.0, ranks_of_cards dealt.hold (all_cards dealt.hold (λ x h. in_set worst.unseen x set ((hold_of worst dealt agrees).unseen x h))))
      agrees.deal.held

  pub few_hidden_crib : hidden_crib worst dealt ≤ 102
  few_hidden_crib =
      let theirs = ranks_of_cards dealt.throw (all_cards dealt.throw (λ x h. in_set worst.unseen x set ((throw_of worst dealt agrees).unseen x h))) in
      let two = are.two in
      let thrown = agrees.deal.thrown in
      few_crib (worst.own_throw ++ dealt.throw) worst.starter (
        are.are_ranks.0,
        subst (AllByRecursion IsRank) (sym (map-append rank_of worst.own_throw dealt.throw))
            (all_both IsRank (map rank_of worst.own_throw) (map rank_of dealt.throw) are.are_ranks.1 theirs),
      )
      (omega (arith, length-append worst.own_throw dealt.throw, two, thrown))
