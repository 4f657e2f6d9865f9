-- What is known of a deal that agrees with a history.
use Rattle.std.proofs.Common.{◌≡◌, ℕ, Bool, true, false, cond, not, ◌&&◌, List, filter, refl, sym, ap, ◌∙◌, arith}
use Rattle.std.proofs.lemmas.Bool.Decides.{nat_tests}
use Rattle.crib_cards.specs.Sets.{has, set_of}
use Rattle.crib_cards.specs.Start.{Start, pone_of, Hands}
use Rattle.crib_cards.specs.declared.sides.Side.{Side}
use Rattle.crib_cards.specs.declared.sides.Side.TheVariants.{Owner, Opponent}
use Rattle.crib_cards.specs.declared.sides.Dealt.{Dealt}
use Rattle.crib_cards.specs.declared.moves.Move.{Move}
use Rattle.crib_cards.proofs.SetFacts.{in_set_where}
use Rattle.crib_play.specs.declared.turns.Turn.TheVariants as turns
use Rattle.crib_play.specs.Record.{Record, mover, count_of, pile_of}
use Rattle.crib_play.specs.Score.{is_done, side_asked, scores_after}
use Rattle.crib_play.specs.Filled.{filled_record}
use Rattle.crib_play.specs.Fitting.{fits_at}
use Rattle.crib_play.specs.Legal.{IsDealt, IsLegal, letters_of, cards_of, cards_left}
use Rattle.crib_play.specs.History.{Event, event_of, history_letters, filled_moves}
use Rattle.crib_play.proofs.LegalRecords.{legal_filled, visible_filled}
use Rattle.crib_show.specs.declared.show.outcomes.Outcome.TheVariants as outcome
use Rattle.crib_show.specs.Outcome.{outcome_of}
use Rattle.crib_sure.specs.Shows.{full_behind}
use Rattle.crib_problem.specs.Setup.{Setup, start_of, hands_of}
use Rattle.crib_problem.proofs.StartLemmas.{started, hold_is_card}
use Rattle.crib_know.specs.Knowledge.{Knowledge, own_cards}
use Rattle.crib_know.specs.Hidden.{AgreesWith, KnowsAfter}
use Rattle.crib_know.proofs.CardLists.{has_set_from}
use Rattle.crib_know.proofs.CardsLeft.{left_remaining, own_played, has-filter_parts}
use Rattle.crib_know.proofs.Deals.{dealt_is}
use Rattle.crib_know.proofs.Events.{events, history_events, plays_of, plays_filled}
use Rattle.crib_game.specs.Replay.{outcome_for}
use Rattle.crib_sure.proofs.AgreeingInSuitOrder.{filter_same}
use Rattle.crib_sure.proofs.RecordsFromOpening.{BegunPlays, begun_plays}
use Rattle.crib_bound.specs.Worth.{LooksLike, MissesAfter, MayPlayAfter}

-- whether the owner may play a card, by what they know
abbrev pub may_play : Knowledge → ℕ → Bool
may_play know card = has know.own_left card && fits_at (count_of know.round.pile) card

-- who is asked says whether a deal is done, and whose turn it is
asked_so : (done : Bool) (side : Side) → (cond done turns.Over (side_asked side) ≡ turns.Over → done ≡ true)
    × (cond done turns.Over (side_asked side) ≡ turns.Owner → (done ≡ false) × (side ≡ Owner))
asked_so true side = (λ over. refl, λ owner. absurd cc)
asked_so false Owner = (λ over. absurd cc, λ owner. (refl, refl))
asked_so false Opponent = (λ over. absurd cc, λ owner. absurd cc)

pub both_true : (one other : Bool) → (one ≡ true → other ≡ true) → (other ≡ true → one ≡ true) → one ≡ other
both_true one other to from = grind (arith, nat_tests, to, from)

module _ {know : Knowledge} {problem : Setup} {history : List Event} (knows : KnowsAfter know problem history) {dealt : Dealt}
    (agrees : AgreesWith problem history dealt) where
  abbrev start : Start
  start = start_of problem

  abbrev hands : Hands
  hands = hands_of problem dealt

  dealt_ok : IsDealt hands
  dealt_ok = dealt_is problem knows.setup dealt agrees.0

  begun : BegunPlays problem dealt history
  begun = begun_plays problem knows.setup dealt agrees.0 history knows.begun
      (plays_of start hands history (started problem knows.setup) dealt_ok agrees.1)

  abbrev seen : List Move
  seen = begun.plays.seen

  -- the record has the silent gos that follow
  abbrev played : List Move
  played = filled_moves start seen

  is_legal : IsLegal start hands played
  is_legal = legal_filled start hands seen dealt_ok begun.plays.legal

  letters_are : letters_of played ≡ filled_record start (history_letters history)
  letters_are = plays_filled start hands history begun.plays

  looks : LooksLike event_of problem history dealt played
  looks = record {
    deal = agrees.0;
    legal = is_legal;
    begins = begun.begins;
    seen = history_events start hands played (started problem knows.setup) dealt_ok is_legal
        ∙ ap (events start) (visible_filled start hands seen (started problem knows.setup) dealt_ok begun.plays.legal)
        ∙ begun.plays.shows;
  }

  asked_is : know.round.asked ≡ cond (is_done start (letters_of played)) turns.Over (side_asked (mover (pone_of start) (letters_of played)))
  asked_is = ap (λ (k : Knowledge). k.round.asked) knows.knowledge
      ∙ ap (λ (letters : Record). cond (is_done start letters) turns.Over (side_asked (mover (pone_of start) letters))) (sym letters_are)

  pile_is : know.round.pile ≡ pile_of (letters_of played)
  pile_is = ap (λ (k : Knowledge). k.round.pile) knows.knowledge ∙ ap pile_of (sym letters_are)

  abbrev kept : List ℕ
  kept = filter (λ card. not (has (own_cards history) card)) problem.hold

  left_kept : cards_left hands Owner played ≡ kept
  left_kept = left_remaining start hands Owner seen
      ∙ filter_same (λ card. not (has (cards_of seen) card)) (λ card. not (has (own_cards history) card)) problem.hold
      (λ card mine. ap not (own_played start hands dealt_ok card mine seen begun.plays.legal
      ∙ ap (λ (h : List Event). has (own_cards h) card) begun.plays.shows))

  left_is : (card : ℕ) → has (cards_left hands Owner played) card ≡ has know.own_left card
  left_is card =
      ap (λ (cards : List ℕ). has cards card) left_kept
      ∙ both_true (has kept card) (has (set_of kept) card)
      (λ h. has_set_from (has kept) card
      (hold_is_card problem knows.setup card (has-filter_parts (λ c. not (has (own_cards history) c)) problem.hold card h).0) h)
      (λ h. (in_set_where (has kept) card h).1)
      ∙ ap (λ (k : Knowledge). has k.own_left card) (sym knows.knowledge)

  -- at an end, it misses the goal if it hasn't the outcome Reached
  pub misses : know.round.asked ≡ turns.Over → (outcome_of (full_behind problem history dealt) ≡ outcome.Reached → ⊥) →
      MissesAfter event_of problem history dealt
  misses over missed = record {
    played = played;
    looks = looks;
    missed = record {
      done = (asked_so (is_done start (letters_of played)) (mover (pone_of start) (letters_of played))).0 (sym asked_is ∙ over);
      missed = λ reached. missed (ap (λ (letters : Record). outcome_for problem dealt (scores_after start letters)) (sym letters_are) ∙ reached);
    };
  }

  -- at a turn of the owner, they may play what is left and fits
  pub may_play_after : know.round.asked ≡ turns.Owner → MayPlayAfter event_of problem history (may_play know) dealt
  may_play_after asked =
      let both = (asked_so (is_done start (letters_of played)) (mover (pone_of start) (letters_of played))).1 (sym asked_is ∙ asked) in
      record {
        played = played;
        looks = looks;
        not_done = both.0;
        asked = both.1;
        cards = λ card. (λ i. left_is card i && fits_at (count_of (sym pile_is i)) card);
      }
