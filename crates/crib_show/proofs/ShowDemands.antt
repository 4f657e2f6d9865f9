-- What the show demands of the opponent's hand and the crib.
use Rattle.std.proofs.Common.{◌≡◌, ℕ, ◌+◌, ◌-◌, ◌<◌, ◌≤◌, min, Bool, true, false, not, cond, leb, ltb, ◌&&◌, ◌||◌, ◌++◌, ◌↔◌, [], ◌∷◌}
use Rattle.std.proofs.Common.{Some, None, refl, ap, ◌∙◌, arith}
use Rattle.std.specs.Prelude.{Option}
use Rattle.std.proofs.lemmas.Bool.{both_ways, false_from_ne_true, le-leb, leb-false, lt-leb, or_parts}
use Rattle.std.proofs.lemmas.Bool.Decides.{nat_tests}
use Rattle.crib_cards.specs.Sides.{game_hole, are_decided}
use Rattle.crib_cards.specs.declared.sides.Scores.{Scores}
use Rattle.crib_cards.specs.declared.sides.Side.{Side}
use Rattle.crib_cards.specs.declared.sides.Side.TheVariants.{Owner, Opponent}
use Rattle.crib_show.specs.Outcome.{holds_of, outcome_from, outcome_of, show_order}
use Rattle.crib_show.specs.Show.{hand_points, crib_points}
use Rattle.crib_show.specs.declared.deals.Full.{Full}
use Rattle.crib_show.specs.declared.show.outcomes.Outcome.{Outcome}
use Rattle.crib_show.specs.declared.show.outcomes.Outcome.TheVariants.{Reached, Lost, Short}
use Rattle.crib_show.specs.Demands.{IsFirstMissingOrNone, IsShowAt, is_met_by}
use Rattle.crib_show.specs.Worst.{AgreesInShow, IsFirstFailureOrNone, with_dealt}
use Rattle.crib_show.specs.declared.deals.WorstShow.{WorstShow}
use Rattle.crib_show.specs.declared.demands.Demand.{Demand}
use Rattle.crib_cards.specs.declared.sides.Dealt.{Dealt}

-- ---- an outcome from tests of the scores

-- whether the owner reaches the goal with this outcome
abbrev is_reached : Outcome → Bool
is_reached Reached = true
is_reached Lost = false
is_reached Short = false

-- the outcome, by whether the goal is `stop`, the owner is at the target, and the opponent is at 121
abbrev said : Bool → Bool → Bool → Outcome
said stop reached lost = cond reached Reached (cond lost Lost (cond stop Reached Short))

-- the dealer misses the goal if the opponent's hand decides, or if neither hand nor crib takes the dealer to the target and the goal is not `stop`
dealer_misses : (stop start hand crib over lost : Bool) → (start || over) ≡ false →
    not (is_reached (cond (start || over) (said stop start over)
    (cond (start || lost) (said stop start lost) (cond (hand || lost) (said stop hand lost) (said stop crib lost)))))
    ≡ (lost || not (hand || (crib || stop)))
dealer_misses stop start hand crib over lost still = grind (arith, nat_tests)

-- the pone misses the goal unless his hand takes him to the target, or the opponent is stopped
pone_misses : (stop start hand over lost beaten : Bool) → (start || over) ≡ false →
    not (is_reached (cond (start || over) (said stop start over)
    (cond (hand || over) (said stop hand over) (cond (hand || lost) (said stop hand lost) (said stop hand beaten)))))
    ≡ not (hand || (not lost && (not beaten && stop)))
pone_misses stop start hand over lost beaten still = grind (arith, nat_tests)

module _ (full : Full) where
  -- whether the owner misses the goal
  abbrev fails : Bool
  fails = not (is_reached (outcome_of full))

  reached_from : fails ≡ false → outcome_of full ≡ Reached
  reached_from is = by (outcome_of full) is
    where
      by : (outcome : Outcome) → not (is_reached outcome) ≡ false → outcome ≡ Reached
      by Reached is = refl
      by Lost is = absurd cc
      by Short is = absurd cc

  abbrev their_hand : ℕ
  their_hand = hand_points full.opp.hold full.starter

  abbrev their_crib : ℕ
  their_crib = crib_points (full.own_throw ++ full.opp.throw) full.starter

  abbrev own : ℕ
  own = hand_points full.own_hold full.starter

  -- ---- the scores decide
  pub decided_reached : full.target ≤ full.scores.owner → outcome_of full ≡ Reached
  unfolding outcome_from
  decided_reached high = rw (le-leb full.target full.scores.owner high)

  pub decided_lost : full.scores.owner < full.target → game_hole ≤ full.scores.opponent → outcome_of full ≡ Lost
  unfolding outcome_from
  decided_lost low high = rw (lt-leb full.target full.scores.owner low, le-leb game_hole full.scores.opponent high)

  -- ---- the show
  outcome_by : Side → Outcome
  outcome_by side =
      outcome_from full.target full.stop full.scores (show_order side (holds_of full) (full.own_throw ++ full.opp.throw) full.starter)

  module _ (still : are_decided full.target full.scores ≡ false) where
    under : full.scores.opponent < 121
    under = leb-false 121 full.scores.opponent (or_parts _ _ still).1

    -- the dealer fails if the opponent's hand has as many points as take them to 121, or if the crib does not take the dealer to the target and the goal is
    -- not `stop`
    dealer_shows : full.dealer ≡ Owner →
        fails ≡ (leb (121 - full.scores.opponent) their_hand
        || (ltb (min 121 (min 121 (full.scores.owner + own) + their_crib)) full.target && not full.stop))
    unfolding outcome_from outcome_by
    dealer_shows is = ap (λ o. not (is_reached o)) (ap outcome_by is) ∙ dealer_misses full.stop (leb full.target full.scores.owner) _ _
        (leb 121 full.scores.opponent) _ still
        ∙ shown full.target full.scores.owner full.scores.opponent own their_hand their_crib full.stop under
      where
        shown : (target owner opponent own hand crib : ℕ) (stop : Bool) → opponent < 121 →
            (leb 121 (min 121 (opponent + hand)) || not (leb target (min 121 (owner + own)) || (leb target (min 121 (min 121 (owner + own) + crib)) || stop)))
            ≡ (leb (121 - opponent) hand || (ltb (min 121 (min 121 (owner + own) + crib)) target && not stop))
        shown target owner opponent own hand crib stop under = grind (arith, nat_tests)

    -- the pone fails if his own hand does not take him to the target, and the hand and the crib have so many points or the goal is not `stop`
    pone_shows : full.dealer ≡ Opponent →
        fails ≡ (ltb (min 121 (full.scores.owner + own)) full.target
        && (leb (121 - full.scores.opponent) (their_hand + their_crib) || not full.stop))
    unfolding outcome_from outcome_by
    pone_shows is = ap (λ o. not (is_reached o)) (ap outcome_by is) ∙ pone_misses full.stop (leb full.target full.scores.owner) _
        (leb 121 full.scores.opponent) _ _ still
        ∙ shown full.target full.scores.owner full.scores.opponent own their_hand their_crib full.stop under
      where
        shown : (target owner opponent own hand crib : ℕ) (stop : Bool) → opponent < 121 →
            not (leb target (min 121 (owner + own)) || (not (leb 121 (min 121 (opponent + hand)))
            && (not (leb 121 (min 121 (min 121 (opponent + hand) + crib))) && stop)))
            ≡ (ltb (min 121 (owner + own)) target && (leb (121 - opponent) (hand + crib) || not stop))
        shown target owner opponent own hand crib stop under = grind (arith, nat_tests)

-- ---- a show of which the demand is asked
module _ {dealer : Side} {scores : Scores} {target hand : ℕ} {stop : Bool} {full : Full} (show : IsShowAt dealer scores target stop hand full) where
  -- the scores decide
  pub show_reached : target ≤ scores.owner → {met : Bool} → met ≡ true → (met ≡ true) ↔ (outcome_of full ≡ Reached)
  show_reached high is = (λ met. decided_reached full (rw (show.target_is, show.scores_are) high), λ reached. is)

  pub show_lost : scores.owner < target → game_hole ≤ scores.opponent → {met : Bool} → met ≡ false → (met ≡ true) ↔ (outcome_of full ≡ Reached)
  show_lost low high is = (
    λ met. absurd (both_ways _ is met),
    λ reached. cc (reached, decided_lost full (rw (show.target_is, show.scores_are) low) (rw show.scores_are high)),
  )

  module _ (low : scores.owner < target) (few : scores.opponent < game_hole) where
    still : are_decided full.target full.scores ≡ false
    still = rw (show.target_is, show.scores_are) (grind (arith, nat_tests, low, few))

    -- a demand that is missed where the owner misses the goal is met exactly by the deals that reach it
    met_if : {met : Bool} → fails full ≡ not met → (met ≡ true) ↔ (outcome_of full ≡ Reached)
    met_if e = grind (arith, nat_tests, e, reached_from full)

    -- the owner misses it as the dealer
    pub dealer_met : dealer ≡ Owner → {met : Bool} →
        (leb (121 - scores.opponent) (their_hand full) || (ltb (min 121 (min 121 (scores.owner + hand) + their_crib full)) target && not stop)) ≡ not met →
        (met ≡ true) ↔ (outcome_of full ≡ Reached)
    dealer_met is e = met_if (cc (dealer_shows full still (show.dealer_is ∙ is)))

    -- and as the pone
    pub pone_met : dealer ≡ Opponent → {met : Bool} →
        (ltb (min 121 (scores.owner + hand)) target && (leb (121 - scores.opponent) (their_hand full + their_crib full) || not stop)) ≡ not met →
        (met ≡ true) ↔ (outcome_of full ≡ Reached)
    pone_met is e = met_if (cc (pone_shows full still (show.dealer_is ∙ is)))

-- ---- the first deal that misses such a demand is the first failure
pub first_failed : (worst : WorstShow) (demand : Demand) →
    ((dealt : Dealt) → AgreesInShow worst dealt → (is_met_by worst demand dealt ≡ true) ↔ (outcome_of (with_dealt worst dealt) ≡ Reached)) →
    (result : Option Dealt) → IsFirstMissingOrNone worst demand result → IsFirstFailureOrNone worst result
first_failed worst demand is None all = λ dealt agrees. (is dealt agrees).0 (all dealt agrees)
first_failed worst demand is (Some dealt) first = record {
  failure = record { agrees = first.agrees; fails = λ reached. both_ways _ first.misses ((is dealt first.agrees).1 reached) };
  in_order = first.in_order;
  first = λ other failure. first.first other failure.agrees (false_from_ne_true _ (λ met. failure.fails ((is other failure.agrees).0 met)));
}
