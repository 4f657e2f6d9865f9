-- The game of the first deal that misses the goal after one turn more.
use Rattle.std.proofs.Common.{◌≡◌, true, List, [], ◌∷◌, sym, ap, ◌∙◌}
use Rattle.std.proofs.lemmas.Bool.{true_from_ne_false}
use Rattle.crib_cards.specs.Start.{Start, pone_of, Hands}
use Rattle.crib_cards.specs.declared.sides.Scores.{Scores}
use Rattle.crib_cards.specs.declared.moves.Act.{Act}
use Rattle.crib_cards.specs.declared.moves.Move.{Move}
use Rattle.crib_play.specs.Record.{mover}
use Rattle.crib_play.specs.declared.turns.Turn.TheVariants as turns
use Rattle.crib_play.specs.Filled.{filled_record}
use Rattle.crib_play.specs.Legal.{letters_of}
use Rattle.crib_play.specs.Score.{asked_after, is_done, scores_after}
use Rattle.crib_play.specs.History.{Event, event_of, history_letters, filled_moves, moves_of}
use Rattle.crib_play.proofs.RecordsReached.{never_over}
use Rattle.crib_problem.specs.Setup.{Setup, IsSetup, start_of, hands_of, played_back}
use Rattle.crib_problem.proofs.StartLemmas.{started}
use Rattle.crib_know.specs.Knowledge.{Knowledge, played_events}
use Rattle.crib_know.specs.Hidden.{AgreesWith, KnowsAfter}
use Rattle.crib_know.proofs.Events.{Plays, plays_of, plays_filled}
use Rattle.crib_know.proofs.Deals.{dealt_is}
use Rattle.crib_game.specs.declared.section.game.Game.{Game}
use Rattle.crib_game.specs.Replay.{IsRecordOf, acts_back, outcome_for}
use Rattle.crib_sure.specs.Private.Suits.{act_of_event, left_after_acts, acts_in_suits}
use Rattle.crib_sure.proofs.AgreeingInSuitOrder.{Suited}
use Rattle.crib_sure.proofs.RecordsFromOpening.{acts_later, suited_turns, suited_legal, suited_acts}
use Rattle.crib_check.specs.Missed.{IsMissedWith}
use Rattle.crib_sure.specs.Shows.{IsReachedBehind}
use Rattle.crib_check.specs.Private.Positions.{AllReach, IsFirstShortfall}

heads : (event other : Event) (events others : List Event) → event ∷ events ≡ other ∷ others → event ≡ other
heads event other events others same = cc

pub all_reached : (problem : Setup) (history : List Event) {know : Knowledge} → KnowsAfter know problem history → AllReach problem history know.round →
    IsReachedBehind problem history
all_reached problem history knows all dealt agrees =
    sym (ap (λ (k : Knowledge). outcome_for problem dealt k.round.scores) knows.knowledge) ∙ all dealt agrees

module _ (problem : Setup) (act : Act) {know : Knowledge} (knows : KnowsAfter know problem (event_of act ∷ played_events problem))
    (over : know.round.asked ≡ turns.Over) (game : Game)
    (short : IsFirstShortfall problem (event_of act ∷ played_events problem) know.round game.opp)
    (acts : acts_back game ≡ acts_in_suits game.opp.hold (played_back problem) (event_of act ∷ [])) where
  abbrev later : List Event
  later = event_of act ∷ []

  abbrev history : List Event
  history = event_of act ∷ played_events problem

  abbrev start : Start
  start = start_of problem

  abbrev hands : Hands
  hands = hands_of problem game.opp

  abbrev turn : Act
  turn = act_of_event (event_of act) (left_after_acts game.opp.hold (played_back problem))

  abbrev played : List Move
  played = filled_moves start (moves_of (turn ∷ played_back problem))

  setup : IsSetup problem
  setup = knows.setup

  agrees : AgreesWith problem history game.opp
  agrees = short.agrees

  plays : Plays start hands history
  plays = plays_of _ _ history (started problem setup) (dealt_is problem setup game.opp agrees.0) agrees.1

  in_suits : Suited setup agrees.0 (turn ∷ played_back problem) history
  in_suits = suited_turns setup agrees.0 later plays

  of_game : IsRecordOf problem game played
  of_game = record {
    deal = agrees.0;
    legal = suited_legal setup agrees.0 later plays;
    acts = suited_acts setup agrees.0 later plays ∙ sym acts;
    begins = rw acts (acts_later problem game.opp.hold later);
  }

  letters_are : letters_of played ≡ filled_record start (history_letters history)
  letters_are =
      plays_filled start hands history (record { seen = moves_of (turn ∷ played_back problem); legal = in_suits.legal; shows = in_suits.shows })

  is_over : asked_after start (filled_record start (history_letters history)) ≡ turns.Over
  is_over = sym (ap (λ (k : Knowledge). k.round.asked) knows.knowledge) ∙ over

  is_done_then : is_done start (filled_record start (history_letters history)) ≡ true
  is_done_then = true_from_ne_false _ (λ going. never_over (mover (pone_of start) (filled_record start (history_letters history))) (sym (rw going at is_over)))

  scores_are : know.round.scores ≡ scores_after start (letters_of played)
  scores_are = ap (λ (k : Knowledge). k.round.scores) knows.knowledge ∙ ap (scores_after start) (sym letters_are)

  pub missed_with : IsMissedWith problem act game
  missed_with = record {
    turn = turn;
    alike = heads _ _ _ _ in_suits.seen;
    acts = acts;
    played = played;
    of_game = of_game;
    done = ap (is_done start) letters_are ∙ is_done_then;
    missed = λ reached. short.fails (ap (λ (s : Scores). outcome_for problem game.opp s) scores_are ∙ reached);
  }
