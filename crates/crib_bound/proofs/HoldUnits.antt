-- If the throw doesn't decide whether the goal is reached, how many deals beat a player is a multiple of 820.
use Rattle.std.proofs.Common.{◌≡◌, ◌↔◌, ◌⊎◌, ℕ, zero, suc, ◌+◌, ◌-◌, ◌<◌, ◌≤◌, min, Bool, true, false, not, ◌&&◌, ◌||◌, leb, ltb}
use Rattle.std.proofs.Common.{List, [], ◌∷◌, ◌++◌, length, refl, sym, ap, subst, ◌∙◌, inl, inr, arith}
use Rattle.std.proofs.lemmas.Bool.{cases_Bool, cases_lt}
use Rattle.std.proofs.lemmas.Bool.Decides.{nat_tests}
use Rattle.std.proofs.lemmas.List.{map-append}
use Rattle.crib_cards.specs.declared.sides.Dealt.{Dealt}
use Rattle.crib_cards.specs.declared.sides.Scores.{Scores}
use Rattle.crib_cards.specs.declared.sides.Side.{Side}
use Rattle.crib_cards.specs.declared.sides.Side.TheVariants.{Owner, Opponent}
use Rattle.crib_cards.specs.declared.letters.Letter.{Letter}
use Rattle.crib_cards.specs.declared.letters.Letter.TheVariants.{Go}
use Rattle.crib_cards.specs.declared.moves.Act.{Act}
use Rattle.crib_cards.specs.declared.moves.Move.{Move}
use Rattle.crib_cards.specs.Letters.{letter_of}
use Rattle.crib_cards.specs.Start.{Start, pone_of}
use Rattle.crib_play.specs.Filled.{filled_record, is_silent_next, with_silent_gos}
use Rattle.crib_play.specs.History.{acts_of, history_letters, moves_of, visible_moves}
use Rattle.crib_play.specs.Legal.{IsLegal, letters_of}
use Rattle.crib_play.specs.Points.{points_for}
use Rattle.crib_play.specs.Record.{Record, cards_in}
use Rattle.crib_play.proofs.SilentGos.{other_twice}
use Rattle.crib_play.proofs.FilledRecords.{filled_whole, letters_filled, not_silent_done}
use Rattle.crib_show.specs.Demands.{IsShowAt}
use Rattle.crib_show.specs.Show.{crib_points, hand_points}
use Rattle.crib_show.specs.declared.show.outcomes.Outcome.TheVariants.{Reached}
use Rattle.crib_show.proofs.ShowDemands.{dealer_met, pone_met, show_lost, show_reached}
use Rattle.crib_problem.specs.Setup.{Setup, IsSetup, IsDealOf, BeginsAsPlayed, hands_of, is_stop, played_back, start_of, target_of}
use Rattle.crib_problem.proofs.StartLemmas.{hands_dealt, started}
use Rattle.crib_know.specs.Knowledge.{knowledge_after, played_events}
use Rattle.crib_know.proofs.OpeningLawProofs.{letters_same}
use Rattle.crib_game.specs.Replay.{full_with, is_done_for, outcome_for, play_scores}
use Rattle.crib_sure.proofs.PointsOfDeals.{few_crib, few_hand}
use Rattle.crib_deals.specs.Exact.{AreExactly}
use Rattle.crib_deals.proofs.ExactCounts.{exactly_same}
use Rattle.crib_deals.proofs.HoldMultiples.{dealt_by, multiple_of_820}
use Rattle.crib_players.specs.Players.{Player, follower_of}
use Rattle.crib_bound.specs.BeatenPlayers.{BeatsPlayer}
use Rattle.crib_bound.specs.Laws.{IsMultiple, IsUnit, IsUnitOfPlayers}
use Rattle.crib_bound.specs.Private.HoldOutcomes.{IsByHold}
use Rattle.crib_bound.proofs.DealerPegs.{dealer_pegs}
use Rattle.crib_bound.proofs.Plans.{same}

-- ---- the outcome by the hold
module _ {problem : Setup} (setup : IsSetup problem) (scores : Scores) where
  abbrev target : ℕ
  target = target_of problem

  abbrev own : ℕ
  own = hand_points problem.hold problem.starter

  -- a test of the hold says whether a deal reaches the goal at these scores
  abbrev IsTested : Type 0
  IsTested = (met : List ℕ → Bool) × ((dealt : Dealt) → IsDealOf problem dealt →
      (met dealt.hold ≡ true) ↔ (outcome_for problem dealt scores ≡ Reached))

  show : (dealt : Dealt) → IsDealOf problem dealt →
      IsShowAt problem.dealer scores target (is_stop problem.goal) own (full_with problem dealt scores)
  show dealt deal = record {
    dealer_is = refl;
    scores_are = refl;
    target_is = refl;
    stop_is = refl;
    own_hand_is = refl;
    few = omega (arith, few_hand setup deal, few_crib setup deal);
  }

  -- every crib has enough points for the owner, unless the scores decide
  record IsEnough : Type 0 where
    least : ℕ
    crib : (theirs : List ℕ) → least ≤ crib_points (problem.thrown ++ theirs) problem.starter
    few : target ≤ 121
    enough : scores.owner < target → scores.opponent < 121 → target ≤ scores.owner + (own + least)

  -- the scores and the goal are such that the crib doesn't decide
  abbrev IsWithoutCrib : Type 0
  IsWithoutCrib = ((problem.dealer ≡ Opponent) × (is_stop problem.goal ≡ false))
      ⊎ ((problem.dealer ≡ Owner) × ((is_stop problem.goal ≡ true) ⊎ IsEnough))

  pone_test : (goal many : Bool) (score : ℕ) → goal ≡ false → (ltb score target && (many || not goal)) ≡ not (leb target score)
  pone_test goal many score is = grind (arith, nat_tests, is)

  dealer_test : (goal few many : Bool) → (few && not goal) ≡ false → (many || (few && not goal)) ≡ not (not many)
  dealer_test goal few many none = grind (arith, nat_tests, none)

  to_stop : (goal few : Bool) → goal ≡ true → (few && not goal) ≡ false
  to_stop goal few is = grind (arith, nat_tests, is)

  past_it : (goal few : Bool) → few ≡ false → (few && not goal) ≡ false
  past_it goal few is = grind (arith, nat_tests, is)

  at_or_past : (least crib : ℕ) → target ≤ 121 → target ≤ scores.owner + (own + least) → least ≤ crib →
      ltb (min 121 (min 121 (scores.owner + own) + crib)) target ≡ false
  at_or_past least crib few enough more = grind (arith, nat_tests, few, enough, more)

  undecided : scores.owner < target → scores.opponent < 121 → IsWithoutCrib → IsTested
  undecided low few (inl pone) = (
    λ hold. leb target (min 121 (scores.owner + own)),
    λ dealt deal. pone_met (show dealt deal) low few pone.0 (pone_test (is_stop problem.goal) _ _ pone.1),
  )
  undecided low few (inr (dealer, inl stop)) = (
    λ hold. not (leb (121 - scores.opponent) (hand_points hold problem.starter)),
    λ dealt deal. dealer_met (show dealt deal) low few dealer (dealer_test (is_stop problem.goal) _ _ (to_stop _ _ stop)),
  )
  undecided low few (inr (dealer, inr enough)) = (
    λ hold. not (leb (121 - scores.opponent) (hand_points hold problem.starter)),
    λ dealt deal. dealer_met (show dealt deal) low few dealer
        (dealer_test (is_stop problem.goal) _ _ (past_it _ _ (at_or_past _ _ enough.few (enough.enough low few) (enough.crib dealt.throw)))),
  )

  tested : IsWithoutCrib → IsTested
  tested without = elim (cases_lt scores.owner target) [
    | inl low ↦ elim (cases_lt scores.opponent 121) [
      | inl few ↦ undecided low few without
      | inr lost ↦ (λ hold. false, λ dealt deal. show_lost (show dealt deal) low lost refl)
    ]
    | inr reached ↦ (λ hold. true, λ dealt deal. show_reached (show dealt deal) reached refl)
  ]

  same_outcome : IsWithoutCrib → (dealt other : Dealt) → IsDealOf problem dealt → IsDealOf problem other → dealt.hold ≡ other.hold →
      outcome_for problem dealt scores ≡ Reached → outcome_for problem other scores ≡ Reached
  same_outcome without dealt other deal also hold reached =
      let test = tested without in (test.1 other also).0 (sym (ap test.0 hold) ∙ (test.1 dealt deal).1 reached)

  -- for a pone who wants to reach a hole the hold decides nothing either
  pub pone_outcome : problem.dealer ≡ Opponent → is_stop problem.goal ≡ false → (dealt other : Dealt) → IsDealOf problem dealt → IsDealOf problem other →
      outcome_for problem dealt scores ≡ Reached → outcome_for problem other scores ≡ Reached
  pone_outcome dealer goal dealt other deal also reached = elim (cases_lt scores.owner target) [
    | inl low ↦ elim (cases_lt scores.opponent 121) [
      | inl few ↦ (met other also low few).0 ((met dealt deal low few).1 reached)
      | inr lost ↦ (show_lost (show other also) low lost refl).0 ((show_lost (show dealt deal) low lost refl).1 reached)
    ]
    | inr enough ↦ (show_reached (show other also) enough refl).0 ((show_reached (show dealt deal) enough refl).1 reached)
  ]
    where
      met : (one : Dealt) → IsDealOf problem one → scores.owner < target → scores.opponent < 121 →
          (leb target (min 121 (scores.owner + own)) ≡ true) ↔ (outcome_for problem one scores ≡ Reached)
      met one is low few = pone_met (show one is) low few dealer (pone_test (is_stop problem.goal) _ _ goal)

-- ---- the scores after the opening
-- the owner's score after the opening
abbrev opening_score : Setup → ℕ
opening_score problem = (knowledge_after problem (played_events problem)).round.scores.owner

-- a record with later gos has no fewer points of the owner
gos_grow : (n : ℕ) (start : Start) (past : Record) →
    points_for (pone_of start) Owner past ≤ points_for (pone_of start) Owner (with_silent_gos n start past)
gos_grow zero start past = omega arith
gos_grow (suc n) start past = elim (cases_Bool (is_silent_next start past)) [
  | inl silent ↦ rw silent (
      let rest = gos_grow n start (Go ∷ past) in
      omega (arith, rest))
  | inr stops ↦ rw stops (omega arith)
]

-- nor has one with later visible turns
later_grow : (start : Start) (later seen : List Letter) →
    points_for (pone_of start) Owner (filled_record start seen) ≤ points_for (pone_of start) Owner (filled_record start (later ++ seen))
later_grow start [] seen = omega arith
later_grow start (turn ∷ later) seen =
    let rest = later_grow start later seen in
    let gos = gos_grow 3 start (turn ∷ filled_record start (later ++ seen)) in
    omega (arith, rest, gos)

module _ {problem : Setup} (setup : IsSetup problem) {dealt : Dealt} (deal : IsDealOf problem dealt) (played : List Move)
    (legal : IsLegal (start_of problem) (hands_of problem dealt) played) (begins : BeginsAsPlayed problem (acts_of (pone_of (start_of problem)) played)) where
  abbrev start : Start
  start = start_of problem

  abbrev pone : Side
  pone = pone_of start

  letters_are : is_done_for problem played ≡ true →
      letters_of played ≡ filled_record start (letters_of (moves_of begins.later) ++ history_letters (played_events problem))
  letters_are done =
      ap letters_of (sym (filled_whole start (hands_of problem dealt) played (started problem setup) (hands_dealt problem setup dealt deal.deal) legal
      (not_silent_done start (letters_of played) done)))
      ∙ letters_filled start (visible_moves pone played)
      ∙ ap (λ (acts : List Act). filled_record start (letters_of (moves_of acts))) begins.parts
      ∙ ap (λ (moves : List Move). filled_record start (letters_of moves)) (map-append (λ (act : Act). act.what) begins.later (played_back problem))
      ∙ ap (filled_record start) (map-append letter_of (moves_of begins.later) (moves_of (played_back problem)))
      ∙ ap (λ (letters : List Letter). filled_record start (letters_of (moves_of begins.later) ++ letters)) (sym (letters_same (played_back problem)))

  grown : is_done_for problem played ≡ true → opening_score problem ≤ (play_scores problem played).owner
  grown done =
      let points = later_grow start (letters_of (moves_of begins.later)) (history_letters (played_events problem)) in
      rw (letters_are done) (omega (arith, points))

  -- once all cards are played the dealer has a point more than at the start
  with_a_point : problem.dealer ≡ Owner → is_done_for problem played ≡ true → (play_scores problem played).owner < target_of problem →
      (play_scores problem played).opponent < 121 → target_of problem ≤ 121 → problem.scores.owner + 1 ≤ (play_scores problem played).owner
  with_a_point dealer done low few least =
      let all : length (cards_in (letters_of played)) ≡ 8 = grind (arith, nat_tests, done, low, few) in
      let pegs = dealer_pegs start (hands_of problem dealt) (hands_dealt problem setup dealt deal.deal) played legal all in
      let point : 1 ≤ points_for pone Owner (letters_of played) =
      subst (λ (side : Side). 1 ≤ points_for pone side (letters_of played)) (other_twice problem.dealer ∙ dealer) pegs in
      omega (arith, point, low, least)

module _ {problem : Setup} (setup : IsSetup problem) where
  pub by_pone : problem.dealer ≡ Opponent → is_stop problem.goal ≡ false → IsByHold problem
  by_pone pone goal = record {
    setup = setup;
    same = λ dealt other played deal also hold legal begins done.
        same_outcome setup (play_scores problem played) (inl (pone, goal)) dealt other deal also hold;
  }

  pub by_stop : problem.dealer ≡ Owner → is_stop problem.goal ≡ true → IsByHold problem
  by_stop dealer goal = record {
    setup = setup;
    same = λ dealt other played deal also hold legal begins done.
        same_outcome setup (play_scores problem played) (inr (dealer, inl goal)) dealt other deal also hold;
  }

  -- the least points of the play, of the hand and of the crib are enough
  pub by_least : problem.dealer ≡ Owner → target_of problem ≤ 121 → (pegged least : ℕ) →
      ((theirs : List ℕ) → least ≤ crib_points (problem.thrown ++ theirs) problem.starter) →
      ((score : ℕ) → opening_score problem ≤ score → problem.scores.owner + 1 ≤ score → pegged ≤ score) →
      target_of problem ≤ pegged + (hand_points problem.hold problem.starter + least) → IsByHold problem
  by_least dealer most pegged least crib reached enough = record {
    setup = setup;
    same = λ dealt other played deal also hold legal begins done.
        same_outcome setup (play_scores problem played) (inr (
          dealer,
          inr (record {
            least = least;
            crib = crib;
            few = most;
            enough = λ low few.
                let score = reached _ (grown setup deal played legal begins done) (with_a_point setup deal played legal begins dealer done low few most) in
                omega (arith, enough, score);
          }),
        )) dealt other deal also hold;
  }

-- ---- the deals that beat a player
module _ {problem : Setup} (by : IsByHold problem) where
  beats_other : (player : Player) (dealt : Dealt) (throw : List ℕ) → BeatsPlayer problem player dealt → IsDealOf problem (dealt_by dealt.hold throw) →
      BeatsPlayer problem player (dealt_by dealt.hold throw)
  beats_other player dealt throw beats deal = record {
    played = beats.played;
    by = record { deal = deal; legal = beats.by.legal; begins = beats.by.begins; by = beats.by.by };
    failure = elim beats.failure [
      | inl missed ↦ inl (record {
        done = missed.done;
        missed = λ reached. missed.missed
            (by.same (dealt_by dealt.hold throw) dealt beats.played deal beats.by.deal refl beats.by.legal beats.by.begins missed.done reached);
      })
      | inr loss ↦ inr loss
    ];
  }

  pub of_hold : (player : Player) (count : ℕ) → AreExactly (BeatsPlayer problem player) count → IsMultiple count 820
  of_hold player count exact = multiple_of_820 by.setup (record {
    deal = λ dealt beats. beats.by.deal;
    other = λ dealt throw beats deal. beats_other player dealt throw beats deal;
  }) exact

pub of_one : (count : ℕ) → IsMultiple count 1
of_one count = (count, omega arith)

-- a unit for players is one for plans
pub for_plans : {problem : Setup} (unit : ℕ) → IsUnitOfPlayers problem unit → IsUnit problem unit
for_plans {problem} unit is plan count exact =
    is (follower_of problem plan) count (exactly_same (λ dealt order beats. (same problem plan dealt).0 beats)
    (λ dealt order beats. (same problem plan dealt).1 beats) exact)
