-- What a record shows of its history.
use Rattle.std.proofs.Common.{◌≡◌, ℕ, ◌+◌, true, false, not, leb, List, refl, sym, ap, ◌∙◌}
use Rattle.crib_cards.specs.Cards.{card_value}
use Rattle.crib_cards.specs.Sets.{has}
use Rattle.crib_cards.specs.Start.{Start, pone_of, Hands}
use Rattle.crib_cards.specs.declared.sides.Side.TheVariants.{Owner}
use Rattle.crib_cards.specs.declared.sides.Dealt.{Dealt}
use Rattle.crib_cards.specs.declared.moves.Move.{Move}
use Rattle.crib_play.specs.Record.{Record, count_of, pile_of}
use Rattle.crib_play.specs.Filled.{is_silent_next, filled_record}
use Rattle.crib_play.specs.Legal.{letters_of, cards_of, cards_left, fits, IsLegal}
use Rattle.crib_play.specs.History.{visible_moves, filled_moves, Event, history_of, history_letters}
use Rattle.crib_play.proofs.FilledRecords.{filled_whole, cards_filled}
use Rattle.crib_play.proofs.LegalRecords.{legal_filled, visible_filled, visible_legal}
use Rattle.crib_problem.specs.Setup.{Setup, IsSetup, start_of, hands_of, IsDealOf}
use Rattle.crib_problem.proofs.StartLemmas.{started}
use Rattle.crib_know.specs.Knowledge.{own_cards, count_after}
use Rattle.crib_know.specs.Hidden.{AgreesWith}
use Rattle.crib_know.proofs.LedHistories.{IsLed}
use Rattle.crib_know.proofs.Events.{Plays, events, history_events, plays_filled}
use Rattle.crib_know.proofs.CardsLeft.{has-filter_from, own_played}
use Rattle.crib_know.proofs.Deals.{dealt_is}
use Rattle.crib_know.proofs.RecordTurns.{agreeing_led}

module _ (problem : Setup) (setup : IsSetup problem) (dealt : Dealt) (deal : IsDealOf problem dealt) where
  abbrev start : Start
  start = start_of problem

  abbrev hands : Hands
  hands = hands_of problem dealt

  -- ---- the filled record of the visible turns that show a history
  module _ (history : List Event) (plays : Plays start hands history) where
    abbrev pub past_of : List Move
    past_of = filled_moves start plays.seen

    pub letters_past : letters_of past_of ≡ filled_record start (history_letters history)
    letters_past = plays_filled start hands history plays

    pub legal_past : IsLegal start hands past_of
    legal_past = legal_filled start hands plays.seen (dealt_is problem setup dealt deal) plays.legal

    pub history_past : history_of (pone_of start) past_of ≡ history
    history_past =
        history_events start hands past_of (started problem setup) (dealt_is problem setup dealt deal) legal_past
        ∙ ap (events start) (visible_filled start hands plays.seen (started problem setup) (dealt_is problem setup dealt deal) plays.legal)
        ∙ plays.shows

    pub unplayed : (card : ℕ) → has problem.hold card ≡ true → has (cards_of past_of) card ≡ has (own_cards history) card
    unplayed card mine =
        ap (λ (cards : List ℕ). has cards card) (cards_filled start plays.seen)
        ∙ own_played start hands (dealt_is problem setup dealt deal) card mine plays.seen plays.legal
        ∙ ap (λ (h : List Event). has (own_cards h) card) plays.shows

    pub fits_past : (card : ℕ) → fits past_of card ≡ leb (count_after problem history + card_value card) 31
    fits_past card = ap (λ (letters : Record). leb (count_of (pile_of letters) + card_value card) 31) letters_past

    -- a card of the hold that the history does not play is left
    pub left_of : (card : ℕ) → has problem.hold card ≡ true → has (own_cards history) card ≡ false → has (cards_left hands Owner past_of) card ≡ true
    left_of card mine free = has-filter_from (λ c. not (has (cards_of past_of) c)) problem.hold card mine (ap not (unplayed card mine ∙ free))

  -- ---- a legal record
  module _ (played : List Move) (legal : IsLegal start hands played) where
    abbrev pub history : List Event
    history = history_of (pone_of start) played

    abbrev pub shown_by : Plays start hands history
    shown_by = record {
      seen = visible_moves (pone_of start) played;
      legal = visible_legal start hands played (started problem setup) (dealt_is problem setup dealt deal) legal;
      shows = sym (history_events start hands played (started problem setup) (dealt_is problem setup dealt deal) legal);
    }

    abbrev pub agrees_of_record : AgreesWith problem history dealt
    agrees_of_record = (deal, (played, legal, refl))

    pub led_by_record : IsLed problem history
    led_by_record = agreeing_led problem setup dealt history agrees_of_record

    -- if no silent go follows, the record is the filled record of its visible turns
    pub is_whole : is_silent_next start (letters_of played) ≡ false → filled_moves start (visible_moves (pone_of start) played) ≡ played
    is_whole stops = filled_whole start hands played (started problem setup) (dealt_is problem setup dealt deal) legal stops

    pub letters_whole : is_silent_next start (letters_of played) ≡ false → letters_of played ≡ filled_record start (history_letters history)
    letters_whole stops = ap letters_of (sym (is_whole stops)) ∙ letters_past history shown_by
