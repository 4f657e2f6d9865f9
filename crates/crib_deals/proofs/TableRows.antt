-- The rows of a table: the open deals with four ranks whose suits have so many points.
use Rattle.std.proofs.Common.{◌≡◌, ◌⊎◌, ℕ, ◌+◌, ◌-◌, ◌*◌, ◌<◌, ◌≤◌, min, max, Bool, true, false, not, ◌&&◌, cond, eqb, ltb, List, [], ◌∷◌, ◌++◌, length}
use Rattle.std.proofs.Common.{map, slice_index, sum_by, refl, sym, ap, ◌∙◌, arith}
use Rattle.std.proofs.lemmas.Bool.{both_ways}
use Rattle.std.proofs.lemmas.Bool.Decides.{nat_tests}
use Rattle.crib_cards.specs.Cards.{rank_of}
use Rattle.crib_cards.specs.Deals.{is_in_pack_order}
use Rattle.crib_cards.specs.Sets.{has, set_without_all}
use Rattle.crib_cards.specs.declared.sides.Dealt.{Dealt}
use Rattle.crib_problem.specs.Setup.{IsSetup, unseen_of}
use Rattle.crib_know.proofs.CardLists.{count_none_of}
use Rattle.crib_know.specs.Hidden.{IsOpen}
use Rattle.crib_know.specs.Knowledge.{Knowledge}
use Rattle.crib_show.specs.Demands.{IsMetByAll, IsMetByNone, is_met}
use Rattle.crib_show.specs.Show.{crib_points, hand_points, most_points, plain_of_ranks}
use Rattle.crib_show.specs.declared.demands.Demand.{Demand}
use Rattle.crib_sure.proofs.PointsOfDeals.{all_meet, few_crib, none_meets}
use Rattle.crib_sure.specs.Shows.{meets}
use Rattle.crib_deals.specs.declared.throws.Cribs.{Cribs}
use Rattle.crib_deals.specs.Deals.{Behind, IsBehind, IsMissing}
use Rattle.crib_deals.specs.Exact.{AreExactly}
use Rattle.crib_deals.specs.Private.Holds.{AreListed, left_by}
use Rattle.crib_deals.specs.Throws.{AreOfProblem}
use Rattle.crib_deals.specs.Private.Sums.{left_below, of_suits}
use Rattle.crib_deals.specs.Tables.{suit_points}
use Rattle.crib_deals.specs.Private.Rows.{IsMissingIn}
use Rattle.crib_deals.specs.Tables.{IsBelow, IsRow}
use Rattle.crib_deals.specs.Throws.{is_below, passing_throws}
use Rattle.crib_deals.proofs.ExactCounts.{exactly_fewer, exactly_rest, exactly_same}
use Rattle.crib_deals.proofs.ListedHolds.{open_listed}
use Rattle.crib_deals.proofs.NumberedDeals.{AreNumbered}
use Rattle.crib_deals.proofs.OpenDeals.{open_to, left_is}

-- ---- points
suits_few : (hold : List ℕ) (starter : ℕ) → suit_points hold starter ≤ 6
suits_few [] starter = grind (arith, nat_tests)
suits_few (card ∷ cards) starter = grind (arith, nat_tests)

-- the points of a hand are those of its ranks and of its suits
hand_is : (hold : List ℕ) (starter : ℕ) (ranks : List ℕ) → map rank_of hold ≡ ranks →
    hand_points hold starter ≡ plain_of_ranks (rank_of starter ∷ ranks) + suit_points hold starter
unfolding hand_points
hand_is hold starter ranks same =
    let plain = ap (λ (listed : List ℕ). plain_of_ranks (rank_of starter ∷ listed)) same in omega (arith, plain)

-- ---- a row from the throws that the holds leave
none_pass : (cards : List ℕ) → passing_throws (λ throw. false) cards ≡ 0
none_pass [] = refl
none_pass (card ∷ cards) = omega (arith, count_none_of (λ o. false) cards (λ o h. refl), none_pass cards)

tested : (of_kind : Bool) (test : List ℕ → Bool) (cards : List ℕ) → passing_throws (λ throw. of_kind && test throw) cards ≡ cond of_kind
    (passing_throws test cards) 0
tested true test cards = refl
tested false test cards = none_pass cards

module _ {behind : Behind} {know : Knowledge} {cribs : Cribs} (of : AreOfProblem behind.problem know cribs) {holds : List (List ℕ)}
    (listed : AreListed behind holds) where
  abbrev starter : ℕ
  starter = behind.problem.starter

  -- the crib with a throw is below a limit if the table has it there
  crib_below : (limit : ℕ) (dealt : Dealt) → is_in_pack_order dealt ≡ true → IsOpen behind.problem dealt →
      is_below cribs.points limit dealt.throw ≡ ltb (crib_points (behind.problem.thrown ++ dealt.throw) starter) limit
  crib_below limit dealt order is =
      let throw = (open_to of.knows.setup dealt order is).2 in
      let first = (left_is of.knows.setup dealt.hold throw.0 throw.3).0 in
      let second = (left_is of.knows.setup dealt.hold throw.1 throw.4).0 in
      let crib : slice_index cribs.points (52 * throw.0 + throw.1) ≡ crib_points (behind.problem.thrown ++ dealt.throw) starter =
      of.cribs_are throw.0 throw.1 first second
      ∙ (λ i. min (crib_points (behind.problem.thrown ++ sym throw.2 i) starter) 29)
      ∙ (let few = few_crib of.knows.setup is.0 in omega (arith, few)) in
      let low : min throw.0 throw.1 ≡ throw.0 = omega (arith, throw.5) in
      let high : max throw.0 throw.1 ≡ throw.1 = omega (arith, throw.5) in
      (λ i. is_below cribs.points limit (throw.2 i))
      ∙ (λ i. not (eqb throw.0 throw.1) && ltb (slice_index cribs.points (52 * low i + high i)) limit)
      ∙ rw crib (grind (arith, nat_tests, throw.5))

  pub row_below : (suits limit count : ℕ) → count ≡ left_below cribs (of_suits starter suits) limit holds →
      AreExactly (IsBelow behind suits limit) count
  row_below suits limit count is =
      let test = λ (hold throw : List ℕ). eqb (suit_points hold starter) suits && is_below cribs.points limit throw in
      let same : left_by (unseen_of behind.problem) test holds ≡ count =
      (λ i. sum_by (λ hold. tested (eqb (suit_points hold starter) suits) (is_below cribs.points limit) (set_without_all (sym of.unseen_is i) hold) i) holds)
      ∙ sym is in
      let exact : AreExactly (IsBelow behind suits limit) (left_by (unseen_of behind.problem) test holds) = exactly_same
      (λ dealt order has. let crib = crib_below limit dealt order has.0.0 in (has.0, grind (arith, nat_tests, has.1), grind (arith, nat_tests, has.1, crib)))
      (λ dealt order has. let crib = crib_below limit dealt order has.0.0 in (has.0, grind (arith, nat_tests, has.1, has.2, crib)))
      (listed.exact test) in
      rw same at exact

  pub row_few : (suits limit count : ℕ) → length holds ≤ 256 → AreExactly (IsBelow behind suits limit) count → count ≤ 209920
  row_few suits limit count few exact =
      let within = exactly_fewer (λ dealt order has. has.0) exact (open_listed of.knows.setup listed) in omega (arith, few, within)

-- ---- what misses a demand
module _ {behind : Behind} (setup : IsSetup behind.problem) where
  -- the number of the points of suits
  pub suits_numbered : (demand : Demand) → AreNumbered (IsMissing behind demand) (λ dealt. suit_points dealt.hold behind.problem.starter) (λ n. n) (λ n. n) 7
  suits_numbered demand = record {
    few = λ dealt has. let few = suits_few dealt.hold behind.problem.starter in omega (arith, few);
    are = λ dealt has. refl;
    back = λ n less. refl;
  }

  -- each deal misses a demand, or none does
  pub all_missing : (demand : Demand) {count : ℕ} → IsMetByNone demand → AreExactly (IsBehind behind) count → AreExactly (IsMissing behind demand) count
  all_missing demand none = exactly_same (λ dealt order has. (has, none_meets setup has.0.0 demand none)) (λ dealt order has. has.0)

  pub none_missing_of_all : (demand : Demand) → IsMetByAll demand → (dealt : Dealt) → IsMissing behind demand dealt → ⊥
  none_missing_of_all demand all dealt has = both_ways _ has.1 (all_meet setup has.0.0.0 demand all)

  pub none_missing : (demand : Demand) (hand : ℕ) → plain_of_ranks (rank_of behind.problem.starter ∷ behind.ranks) + 6 ≡ hand →
      ((points crib : ℕ) → points ≤ hand → crib ≤ most_points → is_met demand points crib ≡ true) → (dealt : Dealt) → IsMissing behind demand dealt → ⊥
  none_missing demand hand is met dealt has =
      let few = suits_few dealt.hold behind.problem.starter in
      let points = hand_is dealt.hold behind.problem.starter behind.ranks has.0.1 in
      both_ways _ has.1 (met (hand_points dealt.hold behind.problem.starter) (crib_points (behind.problem.thrown ++ dealt.throw) behind.problem.starter)
      (omega (arith, few, points, is)) (few_crib setup has.0.0.0))

  module _ (demand : Demand) (suits hand : ℕ) (below : List ℕ) (row : IsRow behind suits below hand) where
    abbrev crib : Dealt → ℕ
    crib dealt = crib_points (behind.problem.thrown ++ dealt.throw) behind.problem.starter

    points_are : (dealt : Dealt) → IsBehind behind dealt → suit_points dealt.hold behind.problem.starter ≡ suits →
        (hand_points dealt.hold behind.problem.starter ≡ hand) × (crib dealt ≤ most_points)
    points_are dealt is same =
        (omega (arith, hand_is dealt.hold behind.problem.starter behind.ranks is.1, row.hand_is, same), few_crib setup is.0.0)

    abbrev IsOfRow : Dealt → Type 0
    IsOfRow dealt = IsBehind behind dealt × (suit_points dealt.hold behind.problem.starter ≡ suits)

    all_of_row : AreExactly IsOfRow (slice_index below 30)
    all_of_row = exactly_same (λ dealt order has. (has.0, has.1))
        (λ dealt order has. let few = (points_are dealt has.0 has.1).1 in (has.0, has.1, omega (arith, few))) (row.below 30 (omega arith))

    -- the hand is too high
    pub row_missed : (demand.hand < hand) ⊎ (demand.total < hand) → AreExactly (IsMissingIn behind demand suits) (slice_index below 30)
    row_missed high = exactly_same
        (λ dealt order has. let at = (points_are dealt has.0 has.1).0 in ((has.0, rw at (grind (arith, nat_tests, high))), has.1))
        (λ dealt order has. (has.0.0, has.1)) all_of_row

    pub row_missing : (past least : ℕ) → hand ≤ demand.hand → hand ≤ demand.total → past ≡ min (demand.total - hand) 29 + 1 → least ≡ min demand.crib past →
        (slice_index below least ≤ slice_index below past) × (slice_index below past - slice_index below least ≤ slice_index below 30)
        × AreExactly (IsMissingIn behind demand suits) (slice_index below 30 - (slice_index below past - slice_index below least))
    row_missing past least low fits past_is least_is =
        let few : (past ≤ 30) × (least ≤ past) = (omega (arith, past_is), omega (arith, least_is)) in
        let between = exactly_rest {Rest = λ dealt. IsOfRow dealt × (meets behind.problem demand dealt ≡ true)} (λ dealt. ltb (crib dealt) least)
        (λ dealt order. (
          λ has. ((has.0, has.1, let less = has.2 in omega (arith, less, few)), grind (arith, nat_tests, has.2)),
          λ has. (
            has.0.0,
            has.0.1,
            grind (arith, nat_tests, has.1),
          ),
        ))
        (λ dealt order. (λ has. met_to dealt has, λ has. met_from dealt has.0 has.1))
        (row.below past few.0) (row.below least (omega (arith, few))) in
        let missed = exactly_rest {Rest = IsMissingIn behind demand suits} (meets behind.problem demand)
        (λ dealt order. (λ has. has, λ has. has)) (λ dealt order. (λ has. ((has.0.0, has.1), has.0.1), λ has. ((has.0.0, has.1), has.0.1)))
        all_of_row between.1 in
        (between.0, missed.0, missed.1)
      where
        met_to : (dealt : Dealt) → IsOfRow dealt × (meets behind.problem demand dealt ≡ true) →
            IsBelow behind suits past dealt × (ltb (crib dealt) least ≡ false)
        met_to dealt has =
            let at = points_are dealt has.0.0 has.0.1 in
            let met : is_met demand hand (crib dealt) ≡ true = rw at.0 at has.1 in
            ((has.0.0, has.0.1, grind (arith, nat_tests, met, at.1, past_is)), grind (arith, nat_tests, met, least_is))

        met_from : (dealt : Dealt) → IsBelow behind suits past dealt → ltb (crib dealt) least ≡ false →
            IsOfRow dealt × (meets behind.problem demand dealt ≡ true)
        met_from dealt has not_less =
            let at = points_are dealt has.0 has.1 in
            let less = has.2 in
            ((has.0, has.1), rw at.0 (grind (arith, nat_tests, less, not_less, low, fits, past_is, least_is)))
