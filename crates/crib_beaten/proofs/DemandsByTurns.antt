-- What a demand at a position decides, from what those after the turns that may be next decide.
use Rattle.std.proofs.Common.{◌≡◌, ℕ, ◌+◌, ◌<◌, ◌≤◌, true, false, eqb, ltb, ◌&&◌, List, ◌∷◌, map, ◌↔◌}
use Rattle.std.proofs.Common.{refl, sym, subst, ◌∙◌, inl, inr, arith}
use Rattle.std.proofs.lemmas.Bool.{and_cases, and_left, and_right, both_ways, cases_lt, eqb-true, false_from_ne_true, ltb-true}
use Rattle.std.proofs.lemmas.Bool.Decides.{nat_tests}
use Rattle.crib_cards.specs.Cards.{IsRank, rank_of}
use Rattle.crib_cards.specs.Letters.{IsLetter, letter_index}
use Rattle.crib_cards.specs.Sets.{count_at, count_rank, rank_counts}
use Rattle.crib_cards.specs.declared.letters.Letter.{Letter}
use Rattle.crib_cards.specs.declared.letters.Letter.TheVariants.{Seen, Go}
use Rattle.crib_cards.specs.declared.moves.Move.{Move}
use Rattle.crib_cards.specs.declared.sides.Dealt.{Dealt}
use Rattle.crib_cards.proofs.CountLemmas.{count_at-rank_counts}
use Rattle.crib_cards.proofs.LetterIndices.{index_small, same_letter}
use Rattle.crib_cards.proofs.SetCounts.{count_cons}
use Rattle.crib_play.specs.declared.turns.Turn.TheVariants as turns
use Rattle.crib_play.specs.History.{Event, Own, Theirs}
use Rattle.crib_show.specs.Outcome.{outcome_of}
use Rattle.crib_show.specs.declared.show.outcomes.Outcome.TheVariants.{Reached}
use Rattle.crib_problem.specs.Setup.{Setup, IsSetup}
use Rattle.crib_plan.specs.declared.plan.Node.{Node}
use Rattle.crib_know.specs.Knowledge.{their_ranks}
use Rattle.crib_know.specs.Hidden.{AgreesWith, KnowsAfter}
use Rattle.crib_know.specs.Private.Ahead.{turns_ahead}
use Rattle.crib_know.proofs.CardLists.{count_map}
use Rattle.crib_know.proofs.CallLemmas.{led_of, passing_same}
use Rattle.crib_know.proofs.ChosenRanks.{ranks_of}
use Rattle.crib_know.proofs.Deals.{least_after_card, least_after_own}
use Rattle.crib_know.proofs.PassingIsAgreeing.{agrees_passes, passing_agrees, theirs_letter}
use Rattle.crib_know.proofs.TurnsAhead.{know_falls}
use Rattle.crib_game.specs.Private.Judging.{full_at}
use Rattle.crib_show.specs.declared.demands.Demand.{Demand}
use Rattle.crib_sure.specs.declared.keys.Key.{Key}
use Rattle.crib_show.specs.Demands.{is_met}
use Rattle.crib_sure.specs.Shows.{meets}
use Rattle.crib_check.specs.Failing.{IsFailingEnding}
use Rattle.crib_beaten.specs.Beaten.{may_show}
use Rattle.crib_beaten.specs.Private.Demands.{BeatsFrom, IsAfterSome, IsDemandAfter, IsDemandAt, IsDemandFrom}
use Rattle.crib_sure.specs.Positions.{IsStuckAt, MayTakeAt, StandsAt}
use Rattle.crib_beaten.proofs.BeatingDeals.{beats_agrees, beats_earlier, beats_here}
use Rattle.crib_sure.proofs.PointsOfDeals.{all_meet}
use Rattle.crib_beaten.proofs.JoinedDemands.{met_by_any, no_demand}
use Rattle.crib_check.proofs.NamedGames.{failed_outcome}
use Rattle.crib_check.proofs.WalkConclusions.{over_ends, over_misses, own_goes_on, stuck_ends, theirs_goes_on}

-- ---- a hold that shows a letter
module _ {problem : Setup} {plan : List Node} {key : Key} {history : List Event} (stands : StandsAt problem plan key history)
    (dealt : Dealt) {counts : List ℕ} (same : rank_counts (map rank_of dealt.hold) ≡ counts) where
  setup : IsSetup problem
  setup = stands.knows.setup

  left_is : (rank : ℕ) → IsRank rank →
      ltb (count_at key.know.ranks_seen rank) (count_at counts rank) ≡ ltb (ranks_of (their_ranks history) rank) (count_rank rank dealt.hold)
  left_is rank is =
      (λ i. ltb (count_at ((stands.knows.knowledge i).ranks_seen) rank) (count_at (sym same i) rank))
      ∙ (λ i. ltb (count_at-rank_counts (their_ranks history) rank is i)
      ((count_at-rank_counts (map rank_of dealt.hold) rank is ∙ count_map rank_of rank dealt.hold) i))

  -- shows it only if it may
  pub none_shown : (letter : Letter) (next : Key) → StandsAt problem plan next (Theirs letter ∷ history) →
      may_show key.know next.know letter counts ≡ false → AgreesWith problem (Theirs letter ∷ history) dealt → ⊥
  none_shown Go next after none agrees = both_ways _ (rw (← same) at none) ((passing_same next.know problem (Theirs Go ∷ history) after.knows dealt).0 agrees).1
  none_shown (Seen rank) next after none agrees =
      let is = theirs_letter problem setup history (Seen rank) (dealt, agrees) in
      let enough = (agrees_passes problem setup dealt agrees.0 (Theirs (Seen rank) ∷ history) agrees rank is).enough in
      grind (arith, nat_tests, left_is rank is, none, enough, count_cons (λ other. eqb other rank) rank (their_ranks history))

  -- shows it, if it may
  pub theirs_agrees : (letter : Letter) (next : Key) → StandsAt problem plan next (Theirs letter ∷ history) →
      may_show key.know next.know letter counts ≡ true → AgreesWith problem history dealt → AgreesWith problem (Theirs letter ∷ history) dealt
  theirs_agrees Go next after may agrees = (passing_same next.know problem (Theirs Go ∷ history) after.knows dealt).1 (agrees.0, rw (← same) at may)
  theirs_agrees (Seen rank) next after may agrees =
      passing_agrees problem setup dealt agrees.0 (Theirs (Seen rank) ∷ history) (led_of next.know problem (Theirs (Seen rank) ∷ history) after.knows)
      (λ other is_rank.
      let left = sym (left_is rank (theirs_letter problem setup history (Seen rank) after.knows.possible)) ∙ may in
      let before = agrees_passes problem setup dealt agrees.0 history agrees other is_rank in
      let seen = count_cons (λ r. eqb r other) rank (their_ranks history) in
      let room : eqb rank other ≡ true → ranks_of (their_ranks history) other < count_rank other dealt.hold =
      λ same_rank. rw (← eqb-true rank other same_rank) (ltb-true _ _ left) in
      let least = least_after_card problem history rank in
      record { enough = grind (arith, nat_tests, before.enough, seen, room); high = grind (arith, nat_tests, before.high, seen, room, least) })

  -- agrees after a move of the owner
  pub own_agrees : key.know.round.asked ≡ turns.Owner → {what : Move} {next : Key} → StandsAt problem plan next (Own what ∷ history) →
      AgreesWith problem history dealt → AgreesWith problem (Own what ∷ history) dealt
  own_agrees asked {what} {next} after agrees =
      passing_agrees problem setup dealt agrees.0 (Own what ∷ history) (led_of next.know problem (Own what ∷ history) after.knows)
      (rw (least_after_own problem history what (rw stands.knows.knowledge at asked)) (agrees_passes problem setup dealt agrees.0 history agrees))

-- ---- demands at a position
-- a turn leads from a position to another
abbrev Goes : Setup → List Node → Key → Event → Key → Type 0
Goes problem plan key event next =
    (history : List Event) → StandsAt problem plan key history → StandsAt problem plan next (event ∷ history)

-- the other has fewer turns ahead
pub goes_on : {problem : Setup} {plan : List Node} {key : Key} {event : Event} {next : Key} → IsAfterSome problem plan key → Goes problem plan key event next →
    IsAfterSome problem plan next × (turns_ahead next.know < turns_ahead key.know)
goes_on {problem} {plan} {key} {event} {next} here goes =
    let after = goes here.0 here.1 in ((event ∷ here.0, after), know_falls key.know next.know problem event here.0 here.1.knows after.knows)

-- a failing game with this deal goes on with one of the letters before an index
abbrev pub BeatsBelow : Setup → List Node → ℕ → List Event → Dealt → Type 0
BeatsBelow problem plan index history dealt =
    (letter : Letter) × (letter_index letter < index) × BeatsFrom problem plan (Theirs letter ∷ history) dealt

-- a demand decides which deals beat the plan with one of the letters before an index
abbrev pub IsDemandBelow : Setup → List Node → Key → List ℕ → ℕ → Demand → Type 0
IsDemandBelow problem plan key counts index = IsDemandAt problem plan key counts (BeatsBelow problem plan index)

module _ {problem : Setup} {plan : List Node} {key : Key} {counts : List ℕ} where
  -- the deal is done
  pub over_demand : (demand : Demand) → key.know.round.asked ≡ turns.Over →
      ((history : List Event) (dealt : Dealt) → KnowsAfter key.know problem history → AgreesWith problem history dealt →
      (meets problem demand dealt ≡ true) ↔ (outcome_of (full_at problem dealt key.know.round) ≡ Reached)) →
      IsDemandFrom problem plan key counts demand
  over_demand demand over decides history stands dealt agrees same =
      let told = decides history dealt stands.knows agrees in (
        λ missed. beats_here stands agrees (rw (over_ends stands over dealt) (failed_outcome _ (λ reached. both_ways _ missed (told.1 reached)))),
        λ beats. false_from_ne_true _ (λ met. (over_misses stands over beats.beats.failing beats.extends).1 (rw beats.beats.of_deal (told.0 met))),
      )

  -- the owner is stuck
  pub stuck_demand : (demand : Demand) → IsStuckAt plan key → ((hand crib : ℕ) → is_met demand hand crib ≡ false) → IsDemandFrom problem plan key counts demand
  stuck_demand demand stuck none history stands dealt agrees same = (
    λ missed. beats_here stands agrees (subst IsFailingEnding (sym (stuck_ends stands stuck dealt)) (inl refl)),
    λ beats. none _ _,
  )

  -- the owner makes the move of the plan
  pub own_demand : {what : Move} {next : Key} (demand : Demand) → key.know.round.asked ≡ turns.Owner → MayTakeAt plan key what →
      Goes problem plan key (Own what) next → IsDemandFrom problem plan next counts demand → IsDemandFrom problem plan key counts demand
  own_demand {what} demand asked may goes tells history stands dealt agrees same =
      let after = goes history stands in
      let told = tells (Own what ∷ history) after dealt (own_agrees stands dealt same asked after agrees) same in (
        λ missed. beats_earlier (told.0 missed),
        λ beats. told.1 (record { beats = beats.beats; extends = own_goes_on stands what may beats.beats.failing beats.extends }),
      )

  -- no deal is beaten
  pub none_demand : {IsBeaten : List Event → Dealt → Type 0} →
      ((history : List Event) → StandsAt problem plan key history → (dealt : Dealt) → rank_counts (map rank_of dealt.hold) ≡ counts →
      IsBeaten history dealt → ⊥) → IsDemandAt problem plan key counts IsBeaten no_demand
  none_demand never history stands dealt agrees same = (
    λ missed. absurd (both_ways _ missed (all_meet stands.knows.setup agrees.0 no_demand met_by_any)),
    λ beats. absurd (never history stands dealt same beats),
  )

  -- the opponent shows a letter, or has none for it
  pub theirs_shown : {letter : Letter} {next : Key} (demand : Demand) → Goes problem plan key (Theirs letter) next →
      may_show key.know next.know letter counts ≡ true → IsDemandFrom problem plan next counts demand → IsDemandAfter problem plan key counts letter demand
  theirs_shown {letter} {next} demand goes shown tells history stands dealt agrees same =
      let after = goes history stands in
      tells (Theirs letter ∷ history) after dealt (theirs_agrees stands dealt same letter next after shown agrees) same

  pub theirs_not_shown : {letter : Letter} {next : Key} → Goes problem plan key (Theirs letter) next → may_show key.know next.know letter counts ≡ false →
      IsDemandAfter problem plan key counts letter no_demand
  theirs_not_shown {letter} {next} goes none = none_demand (λ history stands dealt same beats.
      none_shown stands dealt same letter next (goes history stands) none (beats_agrees stands.knows.setup beats))

  -- ---- the letters before an index
  pub none_below : IsDemandBelow problem plan key counts 0 no_demand
  none_below = none_demand (λ history stands dealt same beats. omega (arith, beats.1))

  pub next_below : {index : ℕ} {letter : Letter} (demand other joined : Demand) → letter_index letter ≡ index → IsLetter letter →
      ((hand crib : ℕ) → is_met joined hand crib ≡ (is_met demand hand crib && is_met other hand crib)) → IsDemandBelow problem plan key counts index demand →
      IsDemandAfter problem plan key counts letter other → IsDemandBelow problem plan key counts (index + 1) joined
  next_below {index} {letter} demand other joined at is join before last history stands dealt agrees same =
      let told = before history stands dealt agrees same in
      let told_last = last history stands dealt agrees same in (
        λ missed. elim (and_cases _ _ (sym (join _ _) ∙ missed)) [
          | inl first ↦ let beats = told.0 first in (beats.0, omega (arith, beats.1), beats.2)
          | inr here ↦ (letter, omega (arith, at), told_last.0 here)
        ],
        λ beats. join _ _ ∙ elim (cases_lt (letter_index beats.0) index) [
          | inl less ↦ and_left _ _ (told.1 (beats.0, less, beats.2))
          | inr most ↦
              let agrees_then = beats_agrees stands.knows.setup beats.2 in
              let valid = theirs_letter problem stands.knows.setup history beats.0 (dealt, agrees_then) in
              and_right _ _ (told_last.1 (rw (same_letter beats.0 letter valid is (omega (arith, most, beats.1, at))) at beats.2))
        ],
      )

  pub all_below : {index : ℕ} (demand : Demand) → key.know.round.asked ≡ turns.Opponent → 14 ≤ index → IsDemandBelow problem plan key counts index demand →
      IsDemandFrom problem plan key counts demand
  all_below demand asked all before history stands dealt agrees same =
      let told = before history stands dealt agrees same in (
        λ missed. let beats = told.0 missed in beats_earlier beats.2,
        λ beats.
            let next = theirs_goes_on stands asked beats.beats.failing beats.extends in
            let small = index_small next.letter (theirs_letter problem stands.knows.setup history next.letter next.can) in
            told.1 (next.letter, omega (arith, small, all), record { beats = beats.beats; extends = next.extends }),
      )
