-- The laws of following a plan, as `specs/FollowLaws` states them.
use Rattle.std.proofs.Common.{◌≡◌, true, false, ◌||◌, List, Option, None, Result, Ok, sym, ap, subst, ◌∙◌, inl}
use Rattle.std.proofs.Common.{inr, arith}
use Rattle.std.specs.List.{list_any}
use Rattle.std.proofs.lemmas.Bool.{or_cases}
use Rattle.crib_cards.proofs.Members.{any_found}
use Rattle.crib_cards.specs.Start.{Start, pone_of, Hands}
use Rattle.crib_cards.specs.Sides.{same_side}
use Rattle.crib_cards.specs.declared.sides.Side.{Side}
use Rattle.crib_cards.specs.declared.sides.Side.TheVariants.{Owner}
use Rattle.crib_cards.specs.declared.moves.Move.{Move}
use Rattle.crib_cards.specs.declared.moves.Act.{Act}
use Rattle.crib_play.specs.Record.{mover, is_heard}
use Rattle.crib_play.specs.Filled.{is_silent_next}
use Rattle.crib_play.specs.Legal.{IsDealt, letters_of, cards_left, fits, IsLegal}
use Rattle.crib_play.specs.History.{filled_moves, moves_of}
use Rattle.crib_play.proofs.TurnFacts.{same_is, heard_card, play_of}
use Rattle.crib_play.proofs.FilledRecords.{filled_whole, not_silent_heard, not_silent_done}
use Rattle.crib_problem.specs.Setup.{Setup, IsSetup, start_of, hands_of}
use Rattle.crib_plan.specs.declared.plan.Node.{Node}
use Rattle.crib_game.specs.declared.following.ending.Ending.{Ending}
use Rattle.crib_game.specs.declared.fault.GameFault.{GameFault}
use Rattle.crib_game.specs.declared.section.game.Game.{Game}
use Rattle.crib_game.specs.Replay.{record_of, unless_fault, is_done_for}
use Rattle.crib_game.specs.Following.{is_stuck}
use Rattle.crib_game.specs.Followed.{IsRecordUnder, follow_fault, ending_of}
use Rattle.crib_game.specs.FollowLaws.{StraysLaw, EndedLaw, AnswerLaw}
use Rattle.crib_problem.proofs.StartLemmas.{started, hands_dealt}
use Rattle.crib_game.proofs.GameFaults.{accepted_is}
use Rattle.crib_game.proofs.PlacesOfRecords.{follows_from, as_played_from, none_strays_from}
use Rattle.crib_game.proofs.FollowGames.{follow_no_fault, follow_record}

pub strays_law : StraysLaw
strays_law problem plan played = (
  λ both. none_strays_from problem plan played both.0 both.1,
  λ none. (follows_from problem plan played none, as_played_from problem plan played none),
)

-- ---- a record that is done or stuck is filled
stuck_heard : (plan : List Node) (before : List Act) (start : Start) (hands : Hands) (played : List Move) → IsDealt hands → IsLegal start hands played →
    is_stuck plan before start hands played ≡ true →
    is_heard (pone_of start) (mover (pone_of start) (letters_of played)) (letters_of played) ≡ true
stuck_heard plan before start hands played dealt legal stuck =
    let who = mover (pone_of start) (letters_of played) in
    let parts : (same_side who Owner ≡ true) × (list_any (fits played) (cards_left hands Owner played) ≡ true) = grind (arith, stuck) in
    let some = any_found (fits played) (cards_left hands Owner played) parts.1 in
    let owner = same_is who Owner parts.0 in
    let H : Side → Type 0 = λ side. is_heard (pone_of start) side (letters_of played) ≡ true in
    subst H (sym owner) (heard_card start hands played (play_of start hands dealt played legal) Owner some.0 some.1 some.2)

ended_filled : (problem : Setup) (plan : List Node) (game : Game) (played : List Move) → IsSetup problem → IsRecordUnder problem plan game played →
    (is_done_for problem played || is_stuck plan problem.played (start_of problem) (hands_of problem game.opp) played) ≡ true → record_of problem game ≡ played
ended_filled problem plan game played is of ended =
    let start = start_of problem in
    let hands = hands_of problem game.opp in
    let dealt = hands_dealt problem is game.opp of.of_game.deal.deal in
    let moves = ap moves_of (sym of.of_game.acts) in
    let not_silent : is_silent_next start (letters_of played) ≡ false =
    elim (or_cases (is_done_for problem played) (is_stuck plan problem.played start hands played) ended) [
      | inl done ↦ not_silent_done start (letters_of played) done
      | inr stuck ↦ not_silent_heard start (letters_of played) (stuck_heard plan problem.played start hands played dealt of.of_game.legal stuck)
    ] in
    ap (filled_moves start) moves ∙ filled_whole start hands played (started problem is) dealt of.of_game.legal not_silent

pub ended_law : EndedLaw
ended_law problem plan game played is of ended =
    sym (accepted_is (follow_fault problem plan game) (ending_of problem plan game.opp played) (ending_of problem plan game.opp (record_of problem game))
    (follow_no_fault problem plan game played is of)
    (ap (ending_of problem plan game.opp) (sym (ended_filled problem plan game played is of ended))))

-- ---- the answers
answered : (fault : Option GameFault) (value ending : Ending) → ◌≡◌ {A = Result Ending GameFault} (unless_fault fault value) (Ok ending) → (fault ≡ None) ×
    (value ≡ ending)
answered fault value ending e = grind arith

pub answer_law : AnswerLaw
answer_law problem plan game ending is six e =
    let parts = answered (follow_fault problem plan game) (ending_of problem plan game.opp (record_of problem game)) ending e in
    record { of_game = follow_record problem plan game is six parts.0; ending_is = parts.1 }
