-- The deals that beat a plan from a history on.
use Rattle.std.proofs.Common.{List, [], ◌∷◌, ◌++◌, reverse, refl}
use Rattle.std.proofs.lemmas.List.{reverse-reverse}
use Rattle.crib_cards.specs.declared.sides.Dealt.{Dealt}
use Rattle.crib_cards.specs.declared.moves.Act.{Act}
use Rattle.crib_play.specs.History.{Event}
use Rattle.crib_problem.specs.Setup.{Setup, IsSetup, played_back}
use Rattle.crib_plan.specs.declared.plan.Node.{Node}
use Rattle.crib_plan.specs.Places.{stated_card}
use Rattle.crib_know.specs.Knowledge.{played_events}
use Rattle.crib_know.specs.Hidden.{AgreesWith}
use Rattle.crib_game.specs.declared.section.game.Game.{Game}
use Rattle.crib_game.specs.Private.Tracing.{ending_at}
use Rattle.crib_sure.specs.declared.keys.Key.{Key}
use Rattle.crib_check.specs.Failing.{IsFailingEnding}
use Rattle.crib_beaten.specs.Private.Demands.{BeatsFrom}
use Rattle.crib_sure.specs.Positions.{StandsAt}
use Rattle.crib_sure.specs.Private.Suits.{acts_in_suits}
use Rattle.crib_check.proofs.ExtendedGames.{agrees_earlier, extends_less, failing_agrees}
use Rattle.crib_check.proofs.NamedGames.{fails_here, history_is}

-- ---- a deal that beats a plan from a history on
module _ {problem : Setup} {plan : List Node} where
  -- agrees with the history
  pub beats_agrees : IsSetup problem → {history : List Event} {dealt : Dealt} → BeatsFrom problem plan history dealt → AgreesWith problem history dealt
  beats_agrees setup {history} beats =
      rw (← beats.beats.of_deal) (agrees_earlier setup beats.extends.0 history (rw beats.extends.1 at (failing_agrees beats.beats.failing)))

  -- beats it from each earlier history on
  pub beats_earlier : {event : Event} {history : List Event} {dealt : Dealt} → BeatsFrom problem plan (event ∷ history) dealt →
      BeatsFrom problem plan history dealt
  beats_earlier beats = record { beats = beats.beats; extends = extends_less beats.extends }

  -- a deal beats the plan from a position on if it fails there
  beats_later : {key : Key} {dealt : Dealt} (later : List Event) → StandsAt problem plan key (later ++ played_events problem) →
      AgreesWith problem (later ++ played_events problem) dealt →
      IsFailingEnding (ending_at problem dealt key.know.round key.know.own_left (stated_card plan key.place)) →
      BeatsFrom problem plan (later ++ played_events problem) dealt
  beats_later {key} {dealt} later stands agrees fails =
      let listed : List Act = acts_in_suits dealt.hold (played_back problem) later in
      let game : Game = record { opp = dealt; acts = record { items = reverse listed } } in
      let failing = fails_here later stands game agrees (reverse-reverse listed) refl fails in record {
        beats = record { game = game; result = _; failing = failing; of_deal = refl };
        extends = ([], history_is later stands game agrees (reverse-reverse listed));
      }

  pub beats_here : {key : Key} {dealt : Dealt} {history : List Event} → StandsAt problem plan key history → AgreesWith problem history dealt →
      IsFailingEnding (ending_at problem dealt key.know.round key.know.own_left (stated_card plan key.place)) → BeatsFrom problem plan history dealt
  beats_here stands agrees fails =
      let parts = stands.knows.begun.parts in rw parts (beats_later stands.knows.begun.later (rw parts at stands) (rw parts at agrees) fails)
