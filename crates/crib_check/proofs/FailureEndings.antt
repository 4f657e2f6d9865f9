-- The ending of a failing game that stops at a position.
use Rattle.std.proofs.Common.{◌≡◌, ℕ, Bool, true, false, cond, not, ◌||◌, List, [], ◌∷◌, map, Some, None, Result, Ok, refl, sym, ap, subst, ◌∙◌, arith}
use Rattle.std.specs.List.{list_all, AllByRecursion}
use Rattle.std.proofs.lemmas.Bool.{and_parts}
use Rattle.crib_cards.specs.Cards.{IsCard}
use Rattle.crib_cards.specs.Deals.{six_cards}
use Rattle.crib_cards.specs.Sets.{has, set_of, set_where}
use Rattle.crib_cards.specs.Start.{Start, pone_of, Hands}
use Rattle.crib_cards.specs.declared.sides.Dealt.{Dealt}
use Rattle.crib_cards.specs.declared.letters.Letter.{Letter}
use Rattle.crib_cards.specs.declared.moves.Move.{Move}
use Rattle.crib_cards.specs.declared.moves.Act.{Act}
use Rattle.crib_play.specs.Filled.{filled_record}
use Rattle.crib_play.specs.Standing.{StandsFor, standing_after}
use Rattle.crib_play.specs.Legal.{IsDealt, letters_of, cards_of}
use Rattle.crib_play.specs.History.{Event, event_of, history_letters, history_of, moves_of, visible_moves, AreLegal}
use Rattle.crib_play.proofs.LegalRecords.{visible_legal}
use Rattle.crib_show.specs.declared.show.outcomes.Outcome.{Outcome}
use Rattle.crib_problem.specs.Setup.{Setup, IsSetup, known_cards, start_of, hands_of, IsDealOf}
use Rattle.crib_problem.proofs.StartLemmas.{started}
use Rattle.crib_plan.specs.declared.plan.Node.{Node}
use Rattle.crib_plan.specs.Places.{stated_card}
use Rattle.crib_know.specs.Knowledge.{Knowledge, own_cards}
use Rattle.crib_know.proofs.Events.{events, history_events}
use Rattle.crib_know.proofs.CardsLeft.{own_played}
use Rattle.crib_know.proofs.Deals.{dealt_is}
use Rattle.crib_know.proofs.RecordTurns.{possible_led}
use Rattle.crib_know.proofs.KnowledgeFacts.{are_taken}
use Rattle.crib_game.specs.declared.section.game.Game.{Game}
use Rattle.crib_game.specs.declared.following.ending.Ending.{Ending}
use Rattle.crib_game.specs.declared.following.ending.Ending.TheVariants as ending
use Rattle.crib_game.specs.declared.fault.GameFault.{GameFault}
use Rattle.crib_game.specs.Replay.{acts_back, is_done_for, record_of, outcome_for, play_scores}
use Rattle.crib_game.specs.Following.{place_of, is_stuck}
use Rattle.crib_game.specs.Followed.{IsRecordUnder, ending_without, ending_of, follow_result}
use Rattle.crib_game.specs.FollowLaws.{StandsSo}
use Rattle.crib_game.specs.Spelling.{AreSixCards}
use Rattle.crib_game.specs.Private.Tracing.{ending_at}
use Rattle.crib_game.proofs.Endings.{ending_is}
use Rattle.crib_game.proofs.FollowLawProofs.{ended_law, answer_law}
use Rattle.crib_game.proofs.GameFaults.{hands_are}
use Rattle.crib_cards.proofs.SetFacts.{in_set_where}
use Rattle.crib_game.specs.Private.Judging.{left_by}
use Rattle.crib_sure.specs.declared.keys.Key.{Key}
use Rattle.crib_check.specs.Failing.{IsFailingEnding, IsFailing}
use Rattle.crib_sure.specs.HistoryPlaces.{place_by}
use Rattle.crib_sure.specs.Private.Histories.{history_of_game}
use Rattle.crib_sure.specs.Positions.{StandsAt}
use Rattle.crib_sure.proofs.PlaceByHistory.{place_history}
use Rattle.crib_know.proofs.OpeningLawProofs.{letters_same}
use Rattle.crib_sure.proofs.AgreeingInSuitOrder.{filter_same}

-- ---- lists

all_cards : (p : ℕ → Bool) (xs : List ℕ) → list_all (has (set_where p)) xs ≡ true → AllByRecursion IsCard xs
all_cards p [] all = tt
all_cards p (x ∷ xs) all =
    let parts = and_parts (has (set_where p) x) (list_all (has (set_where p)) xs) all in
    ((in_set_where p x parts.0).0, all_cards p xs parts.1)

pub six_is : (problem : Setup) (dealt : Dealt) → IsDealOf problem dealt → AreSixCards dealt
six_is problem dealt deal = record {
  held = deal.deal.held;
  thrown = deal.deal.thrown;
  cards = all_cards (λ card. not (has (known_cards problem) card)) (six_cards dealt) deal.deal.hidden_before;
}

-- ---- endings
pub open_is_none : IsFailingEnding ending.Open → ⊥
open_is_none failing = grind (arith, failing)

pub reached_is_none : IsFailingEnding ending.Reached → ⊥
reached_is_none failing = grind (arith, failing)

failing_ended : (d s : Bool) (outcome : Outcome) → IsFailingEnding (ending_without (cond d (Some outcome) None) s) → (d || s) ≡ true
failing_ended false false outcome f = absurd (open_is_none f)
failing_ended d s outcome f = refl

-- ---- a record of a game that stops at a position ends as the position and the deal say
module _ {problem : Setup} {plan : List Node} {key : Key} {history : List Event} {game : Game} (stands : StandsAt problem plan key history)
    (same : history_of_game game ≡ history) (of_game : IsRecordUnder problem plan game (record_of problem game)) where
  abbrev start : Start
  start = start_of problem

  abbrev hands : Hands
  hands = hands_of problem game.opp

  abbrev seen : List Move
  seen = moves_of (acts_back game)

  dealt_ok : IsDealt hands
  dealt_ok = dealt_is problem stands.knows.setup game.opp of_game.of_game.deal

  seen_is : visible_moves (pone_of start) (record_of problem game) ≡ seen
  seen_is = ap moves_of of_game.of_game.acts

  pub seen_legal : AreLegal start hands seen
  seen_legal =
      subst (AreLegal start hands) seen_is (visible_legal start hands (record_of problem game)
      (started problem stands.knows.setup) dealt_ok of_game.of_game.legal)

  history_is : history_of (pone_of start) (record_of problem game) ≡ history
  history_is = ap (λ (acts : List Act). map event_of acts) of_game.of_game.acts ∙ same

  pub events_are : events start seen ≡ history
  events_are =
      ap (events start) (sym seen_is)
      ∙ sym (history_events start hands (record_of problem game) (started problem stands.knows.setup) dealt_ok of_game.of_game.legal)
      ∙ history_is

  letters_are : history_letters history ≡ letters_of seen
  letters_are = ap history_letters (sym same) ∙ letters_same (acts_back game)

  table_stands : StandsFor key.know.round start (letters_of seen)
  table_stands = record {
    started = started problem stands.knows.setup;
    taken = rw letters_are at (are_taken problem stands.knows.setup history (possible_led problem stands.knows.setup history stands.knows.possible)
        stands.knows.begun);
    shows = ap (λ (k : Knowledge). k.round) stands.knows.knowledge
        ∙ ap (λ (letters : List Letter). standing_after start (filled_record start letters)) letters_are;
  }

  own_same : key.know.own_left ≡ (left_by hands seen).owner
  own_same =
      ap (λ (k : Knowledge). k.own_left) stands.knows.knowledge
      ∙ ap set_of (filter_same (λ card. not (has (own_cards history) card)) (λ card. not (has (cards_of seen) card)) problem.hold
      (λ card mine. ap not (ap (λ (h : List Event). has (own_cards h) card) (sym events_are)
      ∙ sym (own_played start hands dealt_ok card mine seen seen_legal))))

  place_same : key.place ≡ place_of plan problem.played (pone_of start) (record_of problem game)
  place_same = stands.place ∙ ap (place_by plan problem.played) (sym history_is)
      ∙ sym (place_history plan problem.played (pone_of start) (record_of problem game))

  pub record_ends : ending_at problem game.opp key.know.round key.know.own_left (stated_card plan key.place) ≡ ending_of problem plan game.opp
      (record_of problem game)
  record_ends =
      ap (λ (cards : List ℕ). ending_at problem game.opp key.know.round cards (stated_card plan key.place)) own_same
      ∙ ending_is problem plan game key.know.round (left_by hands seen) (stated_card plan key.place)
      (hands_are problem game.opp stands.knows.setup (six_is problem game.opp of_game.of_game.deal)) table_stands refl (ap (stated_card plan) place_same)

-- following a failing game gives its ending
pub failing_followed : (problem : Setup) (plan : List Node) → IsSetup problem → (game : Game) (result : Ending) → IsFailing problem plan game result →
    ◌≡◌ {A = Result Ending GameFault} (follow_result problem plan game) (Ok result)
failing_followed problem plan setup game result failing =
    let d = is_done_for problem failing.played in
    let s = is_stuck plan problem.played (start_of problem) (hands_of problem game.opp) failing.played in
    ended_law problem plan game failing.played setup failing.of_game (failing_ended d s (outcome_for problem game.opp (play_scores problem failing.played))
    (rw failing.ending_is failing.failure))
    ∙ ap Ok failing.ending_is

module _ {problem : Setup} {plan : List Node} {game : Game} {result : Ending} (setup : IsSetup problem) (failing : IsFailing problem plan game result) where
  pub failing_stands : StandsSo problem plan game result (record_of problem game)
  failing_stands = answer_law problem plan game result setup (six_is problem game.opp failing.of_game.of_game.deal)
      (failing_followed problem plan setup game result failing)

  pub failing_at : {key : Key} {history : List Event} → StandsAt problem plan key history → history_of_game game ≡ history →
      ending_at problem game.opp key.know.round key.know.own_left (stated_card plan key.place) ≡ result
  failing_at stands same = record_ends stands same failing_stands.of_game ∙ failing_stands.ending_is
