-- The turns of a legal record can be made one by one.
use Rattle.std.proofs.Common.{◌≡◌, true, List, [], ◌∷◌, map, ap, ◌∙◌}
use Rattle.crib_cards.specs.Start.{pone_of}
use Rattle.crib_cards.specs.declared.sides.Dealt.{Dealt}
use Rattle.crib_cards.specs.declared.moves.Move.{Move}
use Rattle.crib_cards.specs.declared.sides.Side.{Side}
use Rattle.crib_cards.specs.declared.sides.Side.TheVariants.{Opponent}
use Rattle.crib_cards.specs.Letters.{letter_of}
use Rattle.crib_play.specs.Record.{mover}
use Rattle.crib_play.specs.Filled.{is_visible, filled_record}
use Rattle.crib_play.specs.Legal.{letters_of, IsLegal}
use Rattle.crib_play.specs.History.{Event, Own, Theirs, event_by, event_of, history_of, history_letters}
use Rattle.crib_play.proofs.FilledRecords.{acts_visible}
use Rattle.crib_problem.specs.Setup.{Setup, IsSetup, start_of, hands_of, IsDealOf}
use Rattle.crib_problem.proofs.StartLemmas.{started}
use Rattle.crib_know.specs.Hidden.{AgreesWith, IsPossible, CanShow}
use Rattle.crib_know.proofs.LedHistories.{IsLed}
use Rattle.crib_know.proofs.Events.{plays_of, LastPlay, last_play}
use Rattle.crib_know.proofs.Deals.{dealt_is}
use Rattle.crib_know.proofs.AgreeingIsPassing.{own_is, mover_same}
use Rattle.crib_know.proofs.PassingIsAgreeing.{own_may, agrees_from}

module _ (problem : Setup) (setup : IsSetup problem) (dealt : Dealt) where
  last_of : (event : Event) (history : List Event) (agrees : AgreesWith problem (event ∷ history) dealt) →
      LastPlay (start_of problem) (hands_of problem dealt) event history
  last_of event history agrees =
      last_play (start_of problem) (hands_of problem dealt) event history
      (plays_of (start_of problem) (hands_of problem dealt) (event ∷ history) (started problem setup) (dealt_is problem setup dealt agrees.0) agrees.1)

  -- a hidden deal that agrees with a history also agrees without its last turn
  pub agrees_before : (event : Event) (history : List Event) → AgreesWith problem (event ∷ history) dealt → AgreesWith problem history dealt
  agrees_before event history agrees = agrees_from problem setup dealt agrees.0 history (last_of event history agrees).0

  pub agreeing_led : (history : List Event) → AgreesWith problem history dealt → IsLed problem history
  agreeing_led [] agrees = tt
  agreeing_led (Own turn ∷ history) agrees =
      let deal : IsDealOf problem dealt = agrees.0 in
      let last = last_of (Own turn) history agrees in
      let start = start_of problem in
      let is = own_is (mover (pone_of start) (filled_record start (history_letters history))) last.1.turn turn last.1.shows in (
        agreeing_led history (agrees_before (Own turn) history agrees),
        rw is.1 at (own_may problem setup dealt deal history last.0 last.1.turn (mover_same problem setup dealt deal history last.0 ∙ is.0) last.1.may),
      )
  agreeing_led (Theirs letter ∷ history) agrees = (agreeing_led history (agrees_before (Theirs letter) history agrees), (dealt, agrees))

  -- what the opponent shows next in a legal record can be shown
  pub next_shown : (turn : Move) (past : List Move) → IsDealOf problem dealt → IsLegal (start_of problem) (hands_of problem dealt) (turn ∷ past) →
      is_visible (pone_of (start_of problem)) (letter_of turn) (letters_of past) ≡ true →
      mover (pone_of (start_of problem)) (letters_of past) ≡ Opponent → CanShow problem (history_of (pone_of (start_of problem)) past) (letter_of turn)
  next_shown turn past deal legal visible m =
      let pone : Side = pone_of (start_of problem) in (
        dealt,
        (
          deal,
          (
            turn ∷ past,
            legal,
            ap (map event_of) (acts_visible pone turn past visible)
                ∙ ap (λ (side : Side). event_by side turn ∷ history_of pone past) m,
          ),
        ),
      )

-- a history with which some hidden deal agrees can be made turn by turn
pub possible_led : (problem : Setup) → IsSetup problem → (history : List Event) → IsPossible problem history → IsLed problem history
possible_led problem setup history possible = agreeing_led problem setup possible.0 history possible.1
