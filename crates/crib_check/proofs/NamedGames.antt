-- The game that the verdict names when the plan fails at a position.
use Rattle.std.proofs.Common.{◌≡◌, true, false, List, ◌++◌, map, refl, sym, ap, subst, ◌∙◌, inl, inr}
use Rattle.crib_cards.specs.Order.{is_before}
use Rattle.crib_cards.specs.Deals.{deal_numbers, is_in_pack_order}
use Rattle.crib_cards.specs.Start.{pone_of}
use Rattle.crib_cards.specs.declared.sides.Dealt.{Dealt}
use Rattle.crib_play.specs.declared.turns.Turn.TheVariants as turns
use Rattle.crib_play.specs.History.{Event, event_of}
use Rattle.crib_show.specs.declared.show.outcomes.Outcome.{Outcome}
use Rattle.crib_show.specs.declared.show.outcomes.Outcome.TheVariants as outcome
use Rattle.crib_show.specs.Outcome.{outcome_of}
use Rattle.crib_problem.specs.Setup.{Setup, IsSetup, start_of, hands_of, played_back}
use Rattle.crib_problem.proofs.StartLemmas.{started}
use Rattle.crib_know.specs.Knowledge.{played_events}
use Rattle.crib_plan.specs.declared.plan.Node.{Node}
use Rattle.crib_plan.specs.Places.{stated_card}
use Rattle.crib_know.specs.Hidden.{AgreesWith, IsFirstDeal}
use Rattle.crib_know.proofs.Events.{Plays, plays_of}
use Rattle.crib_know.proofs.Deals.{dealt_is}
use Rattle.crib_game.specs.declared.section.game.Game.{Game}
use Rattle.crib_game.specs.declared.following.ending.Ending.{Ending}
use Rattle.crib_game.specs.declared.following.ending.Ending.TheVariants as ending
use Rattle.crib_game.specs.Replay.{acts_back, record_of}
use Rattle.crib_game.specs.Followed.{IsRecordUnder, ending_with}
use Rattle.crib_game.specs.Private.Judging.{full_at}
use Rattle.crib_game.specs.Private.Tracing.{ending_at}
use Rattle.crib_sure.specs.declared.keys.Key.{Key}
use Rattle.crib_check.specs.Failing.{IsFailingEnding, IsFailing, is_suited}
use Rattle.crib_sure.specs.Private.Histories.{history_of_game}
use Rattle.crib_sure.specs.Positions.{StandsAt, IsStuckAt}
use Rattle.crib_check.specs.Private.Positions.{IsFirstFrom, IsFirstShortfall}
use Rattle.crib_sure.specs.Private.Suits.{acts_in_suits}
use Rattle.crib_sure.proofs.PlaceByHistory.{follows_from}
use Rattle.crib_check.proofs.FailureEndings.{record_ends, reached_is_none}
use Rattle.crib_check.proofs.WalkConclusions.{stuck_ends, over_ends, leaf_first}
use Rattle.crib_sure.proofs.AgreeingInSuitOrder.{Suited}
use Rattle.crib_sure.proofs.RecordsFromOpening.{acts_later, suited_turns, suited_legal, suited_shows, suited_acts}

pub failed_outcome : (o : Outcome) → (o ≡ outcome.Reached → ⊥) → IsFailingEnding (ending_with o)
failed_outcome outcome.Reached not_reached = absurd (not_reached refl)
failed_outcome outcome.Lost not_reached = inr (inl refl)
failed_outcome outcome.Short not_reached = inr (inr refl)

module _ {problem : Setup} {plan : List Node} {key : Key} (later : List Event) (stands : StandsAt problem plan key (later ++ played_events problem))
    (game : Game) (agrees : AgreesWith problem (later ++ played_events problem) game.opp)
    (acts : acts_back game ≡ acts_in_suits game.opp.hold (played_back problem) later) where
  abbrev history : List Event
  history = later ++ played_events problem

  setup : IsSetup problem
  setup = stands.knows.setup

  plays : Plays (start_of problem) (hands_of problem game.opp) history
  plays = plays_of _ _ history (started problem setup) (dealt_is problem setup game.opp agrees.0) agrees.1

  in_suits : Suited setup agrees.0 (acts_in_suits game.opp.hold (played_back problem) later) history
  in_suits = suited_turns setup agrees.0 later plays

  pub history_is : history_of_game game ≡ history
  history_is = ap (map event_of) acts ∙ in_suits.seen

  record_under : IsRecordUnder problem plan game (record_of problem game)
  record_under = rw acts (record {
    of_game = record {
      deal = agrees.0;
      legal = suited_legal setup agrees.0 later plays;
      acts = suited_acts setup agrees.0 later plays ∙ sym acts;
      begins = rw acts (acts_later problem game.opp.hold later);
    };
    follows = follows_from plan problem.played (pone_of (start_of problem)) _ (rw (suited_shows setup agrees.0 later plays) stands.follows);
  })

  -- the game fails if its deal fails here
  pub fails_here : {result : Ending} → ending_at problem game.opp key.know.round key.know.own_left (stated_card plan key.place) ≡ result →
      IsFailingEnding result → IsFailing problem plan game result
  fails_here e failure =
      record { played = record_of problem game; of_game = record_under; ending_is = sym (record_ends stands history_is record_under) ∙ e; failure = failure }

  -- the game is the first failing one, if its deal is the first of those that fail here
  named : {result : Ending} → ending_at problem game.opp key.know.round key.know.own_left (stated_card plan key.place) ≡ result → IsFailingEnding result →
      is_in_pack_order game.opp ≡ true →
      ((other : Dealt) → AgreesWith problem history other →
      IsFailingEnding (ending_at problem other key.know.round key.know.own_left (stated_card plan key.place)) →
      is_before (deal_numbers other) (deal_numbers game.opp) ≡ false) → IsFirstFrom problem plan history game result
  named e failure order = leaf_first stands (fails_here e failure) history_is order (ap (is_suited problem game.opp.hold) acts ∙ in_suits.suits)

-- the first deal, or the first one that misses the goal, gives the first failing game
module _ {problem : Setup} {plan : List Node} {key : Key} (later : List Event) (stands : StandsAt problem plan key (later ++ played_events problem))
    (game : Game) (acts : acts_back game ≡ acts_in_suits game.opp.hold (played_back problem) later) where
  pub stuck_named : IsStuckAt plan key → IsFirstDeal problem (later ++ played_events problem) game.opp →
      IsFirstFrom problem plan (later ++ played_events problem) game ending.Stuck
  stuck_named stuck first = named later stands game first.agrees acts (stuck_ends stands stuck game.opp) (inl refl) first.in_order
      (λ other agrees fails. first.first other agrees)

  pub over_named : key.know.round.asked ≡ turns.Over → {result : Ending} → result ≡ ending_with (outcome_of (full_at problem game.opp key.know.round)) →
      IsFirstShortfall problem (later ++ played_events problem) key.know.round game.opp → IsFirstFrom problem plan (later ++ played_events problem) game result
  over_named over e short =
      let ends = over_ends stands over in
      named later stands game short.agrees acts (ends game.opp ∙ sym e) (rw e (failed_outcome _ short.fails)) short.in_order
      (λ other agrees fails. short.first other agrees (λ reached. reached_is_none (subst IsFailingEnding (ends other ∙ ap ending_with reached) fails)))
