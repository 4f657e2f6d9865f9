-- Games that go on from a history. Each stops there, or goes on with a turn that may be next.
use Rattle.std.proofs.Common.{◌≡◌, ◌⊎◌, List, [], ◌∷◌, ◌++◌, map, refl, sym, ap, ◌∙◌, inl, inr, append_assoc}
use Rattle.std.proofs.lemmas.List.{map-append}
use Rattle.crib_cards.specs.Start.{pone_of}
use Rattle.crib_cards.specs.declared.sides.Dealt.{Dealt}
use Rattle.crib_cards.specs.declared.moves.Act.{Act}
use Rattle.crib_play.specs.History.{Event, event_of}
use Rattle.crib_problem.specs.Setup.{Setup, IsSetup, start_of, played_back}
use Rattle.crib_plan.specs.declared.plan.Node.{Node}
use Rattle.crib_know.specs.Knowledge.{played_events, knowledge_after}
use Rattle.crib_sure.specs.declared.keys.Key.{Key}
use Rattle.crib_sure.specs.Positions.{StandsAt}
use Rattle.crib_know.specs.Hidden.{AgreesWith, BeginsAfter}
use Rattle.crib_know.proofs.LedHistories.{MayCome}
use Rattle.crib_know.proofs.RecordTurns.{agrees_before, agreeing_led}
use Rattle.crib_game.specs.declared.section.game.Game.{Game}
use Rattle.crib_game.specs.declared.following.ending.Ending.{Ending}
use Rattle.crib_check.specs.Failing.{IsFailing}
use Rattle.crib_sure.specs.HistoryPlaces.{place_by, IsStatedEvent, FollowsBy}
use Rattle.crib_sure.specs.Private.Histories.{Extends, history_of_game}
use Rattle.crib_sure.proofs.PlaceByHistory.{begun_late, follows_to}

pub extends_less : {event : Event} {history longer : List Event} → Extends (event ∷ history) longer → Extends history longer
extends_less {event} {history} ext = (ext.0 ++ event ∷ [], ext.1 ∙ sym (append_assoc ext.0 (event ∷ []) history))

-- a history that goes on from another is that one, or has one more event at least
pub record GoesOnWith (history longer : List Event) : Type 0 where
  pub event : Event
  pub extends : Extends (event ∷ history) longer

pub extends_cases : (history longer : List Event) → Extends history longer → (longer ≡ history) ⊎ GoesOnWith history longer
extends_cases history longer ext = split ext.0 longer ext.1
  where
    split : (later whole : List Event) → whole ≡ later ++ history → (whole ≡ history) ⊎ GoesOnWith history whole
    split [] whole e = inl e
    split (event ∷ later) whole e =
        elim (split later (later ++ history) refl) [
          | inl same ↦ inr (record { event = event; extends = ([], e ∙ ap (λ (h : List Event). event ∷ h) same) })
          | inr more ↦ inr (record { event = more.event; extends = (event ∷ more.extends.0, e ∙ ap (λ (h : List Event). event ∷ h) more.extends.1) })
        ]

-- ---- failing games
module _ {problem : Setup} {plan : List Node} {game : Game} {result : Ending} (failing : IsFailing problem plan game result) where
  pub failing_agrees : AgreesWith problem (history_of_game game) game.opp
  failing_agrees =
      let of = failing.of_game.of_game in
      (of.deal, (failing.played, of.legal, ap (λ (acts : List Act). map event_of acts) of.acts))

  pub failing_follows : FollowsBy plan problem.played (history_of_game game)
  failing_follows =
      let of = failing.of_game.of_game in
      rw of.acts at (follows_to plan problem.played (pone_of (start_of problem)) failing.played failing.of_game.follows)

  -- it goes on from the opening
  pub failing_begins : Extends (played_events problem) (history_of_game game)
  failing_begins =
      let begins = failing.of_game.of_game.begins in
      (map event_of begins.later, ap (λ (acts : List Act). map event_of acts) begins.parts ∙ map-append event_of begins.later (played_back problem))

pub follows_earlier : (plan : List Node) (played : List Act) (later history : List Event) → FollowsBy plan played (later ++ history) →
    FollowsBy plan played history
follows_earlier plan played [] history follows = follows
follows_earlier plan played (event ∷ later) history follows = follows_earlier plan played later history follows.0

pub agrees_earlier : {problem : Setup} {dealt : Dealt} → IsSetup problem → (later history : List Event) → AgreesWith problem (later ++ history) dealt →
    AgreesWith problem history dealt
agrees_earlier setup [] history agrees = agrees
agrees_earlier setup (event ∷ later) history agrees = agrees_earlier setup later history (agrees_before _ setup _ event (later ++ history) agrees)

-- the position after a history, and that a failing game passes it
abbrev pub key_at : Setup → List Node → List Event → Key
key_at problem plan history = record { know = knowledge_after problem history; place = place_by plan problem.played history }

pub stands_at : {problem : Setup} {plan : List Node} {history : List Event} {game : Game} {result : Ending} → IsSetup problem → BeginsAfter problem history →
    IsFailing problem plan game result → Extends history (history_of_game game) → StandsAt problem plan (key_at problem plan history) history
stands_at {problem} {plan} {history} {game} setup begun failing ext = record {
  knows = record {
    setup = setup;
    begun = begun;
    possible = (game.opp, agrees_earlier setup ext.0 history (rw ext.1 at (failing_agrees failing)));
    knowledge = refl;
  };
  place = refl;
  follows = follows_earlier plan problem.played ext.0 history (rw ext.1 at (failing_follows failing));
}

-- the next turn of a failing game that goes on from a history
pub record NextTurn (problem : Setup) (plan : List Node) (history : List Event) (game : Game) : Type 0 where
  pub event : Event
  pub extends : Extends (event ∷ history) (history_of_game game)
  pub may : MayCome problem history event
  pub stated : IsStatedEvent plan (place_by plan problem.played history) event

pub next_turn : {problem : Setup} {plan : List Node} {history : List Event} {game : Game} {result : Ending} → IsSetup problem → BeginsAfter problem history →
    IsFailing problem plan game result → Extends history (history_of_game game) → (history_of_game game ≡ history) ⊎ NextTurn problem plan history game
next_turn {problem} {plan} {history} {game} setup begun failing ext =
    elim (extends_cases history (history_of_game game) ext) [
      | inl same ↦ inl same
      | inr more ↦
          let event = more.event in
          let later = more.extends.0 in
          let agrees = agrees_earlier setup later (event ∷ history) (rw more.extends.1 at (failing_agrees failing)) in
          let follows = follows_earlier plan problem.played later (event ∷ history)
          (rw more.extends.1 at (failing_follows failing)) in
          inr (record {
            event = event;
            extends = more.extends;
            may = (agreeing_led problem setup game.opp (event ∷ history) agrees).1;
            stated = follows.1 (begun_late problem history begun);
          })
    ]
