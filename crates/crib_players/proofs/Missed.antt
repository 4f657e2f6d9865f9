-- When the goal is missed in a game, by its filled record.
use Rattle.std.proofs.Common.{◌≡◌, ◌≢◌, Bool, true, false, cond, List, Option, Some, None, Result, Ok, refl, sym, ap, ◌∙◌, arith}
use Rattle.std.proofs.lemmas.Bool.{both_ways}
use Rattle.crib_cards.specs.declared.moves.Move.{Move}
use Rattle.crib_play.specs.Legal.{letters_of}
use Rattle.crib_play.specs.History.{filled_moves, moves_of}
use Rattle.crib_play.proofs.FilledRecords.{filled_whole, not_silent_done}
use Rattle.crib_play.proofs.LegalRecords.{legal_filled}
use Rattle.crib_show.specs.declared.show.outcomes.Outcome.{Outcome}
use Rattle.crib_show.specs.declared.show.outcomes.Outcome.TheVariants.{Reached, Lost, Short}
use Rattle.crib_problem.specs.Setup.{Setup, IsSetup, start_of, hands_of}
use Rattle.crib_problem.proofs.StartLemmas.{started, hands_dealt}
use Rattle.crib_game.specs.declared.section.game.Game.{Game}
use Rattle.crib_game.specs.declared.fault.GameFault.{GameFault}
use Rattle.crib_game.specs.declared.replaying.report.Report.{Report}
use Rattle.crib_game.specs.Replay.{IsRecordOf, acts_back, by_rules, full_with, game_fault, is_done_for, outcome_after, outcome_for}
use Rattle.crib_game.specs.Replay.{outcome_if_done, play_scores, record_of}
use Rattle.crib_game.specs.Replay.{replay_result, report_of, unless_fault}
use Rattle.crib_game.proofs.ActFaults.{acts_filled, legal_acts}
use Rattle.crib_game.proofs.GameFaults.{clear_parts, no_fault_is}
use Rattle.crib_players.specs.Refutations.{IsMissed}
use Rattle.crib_players.specs.Private.Judging.{is_miss}

miss_parts : (done : Bool) (outcome : Outcome) → is_miss (cond done (Some outcome) None) ≡ true → (done ≡ true) × (outcome ≢ Reached)
miss_parts true Reached e = absurd (both_ways false refl e)
miss_parts true Lost e = (refl, λ same. cc)
miss_parts true Short e = (refl, λ same. cc)
miss_parts false outcome e = absurd (both_ways false refl e)

other_is : (outcome : Outcome) → outcome ≢ Reached → is_miss (Some outcome) ≡ true
other_is Reached other = absurd (other refl)
other_is Lost other = refl
other_is Short other = refl

given_is : (found : Option GameFault) (given value : Report) → ◌≡◌ {A = Result Report GameFault} (Ok given) (unless_fault found value) → given ≡ value
given_is found given value e = grind arith

pub report_is : (problem : Setup) (game : Game) (report : Report) →
    ◌≡◌ {A = Result Report GameFault} (Ok report) (replay_result problem game) → report ≡ report_of problem game
report_is problem game report e = given_is (game_fault problem game) report (report_of problem game) e

module _ (problem : Setup) (game : Game) (setup : IsSetup problem) where
  -- the filled record of a game that has some record is a record of it
  filled_record_is : (played : List Move) → IsRecordOf problem game played → IsRecordOf problem game (record_of problem game)
  filled_record_is played of =
      let start = start_of problem in
      let hands = hands_of problem game.opp in
      let judge = by_rules problem in
      let dealt = hands_dealt problem setup game.opp of.deal.deal in
      let none = (clear_parts judge problem game (no_fault_is problem game played setup of)).acts in
      record {
        deal = of.deal;
        legal = legal_filled start hands (moves_of (acts_back game)) dealt (legal_acts judge start hands (acts_back game) none);
        acts = acts_filled judge start hands (acts_back game) (started problem setup) dealt none;
        begins = of.begins;
      }

  -- a record that is done is the filled one
  done_filled : (played : List Move) → IsRecordOf problem game played → is_done_for problem played ≡ true → record_of problem game ≡ played
  done_filled played of done =
      let start = start_of problem in
      let hands = hands_of problem game.opp in
      ap (filled_moves start) (ap moves_of (sym of.acts))
      ∙ filled_whole start hands played (started problem setup) (hands_dealt problem setup game.opp of.deal.deal) of.legal
      (not_silent_done start (letters_of played) done)

  pub missed_from : (played : List Move) → IsRecordOf problem game played →
      is_miss (outcome_after problem game.opp (record_of problem game)) ≡ true → IsMissed problem game
  missed_from played of miss =
      let filled = record_of problem game in
      let parts = miss_parts (is_done_for problem filled) (outcome_for problem game.opp (play_scores problem filled)) miss in
      record { played = filled; of_game = filled_record_is played of; done = parts.0; missed = parts.1 }

  pub missed_to : IsMissed problem game → is_miss (outcome_after problem game.opp (record_of problem game)) ≡ true
  missed_to is =
      ap (λ (played : List Move). is_miss (outcome_after problem game.opp played)) (done_filled is.played is.of_game is.done)
      ∙ ap (λ (done : Bool). is_miss (outcome_if_done done (full_with problem game.opp (play_scores problem is.played)))) is.done
      ∙ other_is (outcome_for problem game.opp (play_scores problem is.played)) is.missed
