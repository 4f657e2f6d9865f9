-- The turns of the opening can be made one by one, and some hidden deal agrees with them.
use Rattle.std.proofs.lemmas.Bool.Decides.{nat_tests}
use Rattle.crib_problem.proofs.AskedHolds.{none_of_two, asked_open}
use Rattle.std.proofs.lemmas.List.{map-append}
use Rattle.std.proofs.lemmas.Bool.{false_from_ne_true, ltb-false}
use Rattle.std.proofs.Common.{◌≡◌, ℕ, ◌+◌, ◌<◌, ◌≤◌, Bool, true, not, ◌&&◌, ◌||◌, eqb, leb, ltb, List, [], ◌∷◌, ◌++◌, map, length}
use Rattle.std.proofs.Common.{take, drop, reverse, get_or, None, refl, sym, ap, ◌∙◌, arith}
use Rattle.std.specs.List.{list_any}
use Rattle.std.proofs.lemmas.Bool.{or_left, both_ways, not-false, leb-true}
use Rattle.std.proofs.lemmas.List.{append-nil}
use Rattle.crib_cards.specs.Cards.{rank_of, card_value}
use Rattle.crib_cards.specs.Sets.{has, count_rank}
use Rattle.crib_cards.specs.Letters.{letter_of}
use Rattle.crib_cards.specs.Start.{pone_of}
use Rattle.crib_cards.specs.declared.sides.Side.{Side}
use Rattle.crib_cards.specs.declared.sides.Side.TheVariants.{Owner, Opponent}
use Rattle.crib_cards.specs.declared.sides.Dealt.{Dealt}
use Rattle.crib_cards.specs.declared.letters.Letter.{Letter}
use Rattle.crib_cards.specs.declared.letters.Letter.TheVariants.{Seen, Go}
use Rattle.crib_cards.specs.declared.moves.Move.{Move}
use Rattle.crib_cards.specs.declared.moves.Move.TheVariants as move
use Rattle.crib_cards.specs.declared.moves.Act.{Act}
use Rattle.crib_cards.proofs.SetLemmas.{set_where_agree}
use Rattle.crib_cards.proofs.SetFacts.{has-filter}
use Rattle.crib_play.specs.Record.{Record, count_of, pile_of}
use Rattle.crib_play.specs.Score.{asked_after}
use Rattle.crib_play.specs.Filled.{filled_record}
use Rattle.crib_play.specs.Legal.{letters_of}
use Rattle.crib_play.specs.History.{Event, event_by, event_of, history_letters, moves_of}
use Rattle.crib_play.specs.Fitting.{fits_at}
use Rattle.crib_play.specs.Least.{least_of}
use Rattle.crib_problem.specs.Refusals.{not_held, does_not_fit, must_play, no_deal}
use Rattle.crib_problem.specs.Played.{OpeningBasis, cards_played, cards_by, asked_by, count_by_acts, own_left_by, least_by, AreAllowed}
use Rattle.crib_problem.specs.Setup.{Setup, IsSetup, IsMove, known_cards, unseen_of, start_of, opening_basis_of, hands_of, played_back, IsDealOf}
use Rattle.crib_problem.proofs.StartLemmas.{hold_known}
use Rattle.crib_know.specs.Knowledge.{played_events, own_cards, their_ranks, least_value, count_after, asked_now, own_left}
use Rattle.crib_know.specs.Private.Knowledge.{at_first_lead}
use Rattle.crib_know.specs.Hidden.{AgreesWith, BeginsAfter}
use Rattle.crib_know.proofs.LedHistories.{MayCome, IsLed}
use Rattle.crib_know.proofs.Events.{Plays, event_by_letter}
use Rattle.crib_know.proofs.CardLists.{one_same, count_within, has_set_from}
use Rattle.crib_know.proofs.PassingIsAgreeing.{passing_plays, agrees_from}
use Rattle.crib_know.proofs.FixedCards.{Allowed, allowed_parts, AreShown, are_shown, back_moves}
use Rattle.crib_know.proofs.FirstDeals.{Needs, Fixes, first_dealt, first_is_deal, hold_passes}
use Rattle.crib_know.proofs.KnowledgeFacts.{ranks_played, begun_fixes, needs_history, shows}
use Rattle.crib_know.proofs.RecordTurns.{agreeing_led}
use Rattle.crib_problem.proofs.Setups.{AllMoves, without_opening}
use Rattle.crib_problem.proofs.AskedHolds.{none_of_one}
use Rattle.crib_cards.proofs.SetCounts.{count_cons}
use Rattle.crib_cards.proofs.Members.{rank_is}
use Rattle.crib_problem.proofs.HonestTurns.{all_from_back}

-- ---- lists of acts
led_end : (problem : Setup) (later history : List Event) → IsLed problem (later ++ history) → IsLed problem history
led_end problem [] history led = led
led_end problem (event ∷ later) history led = led_end problem later history led.0

-- ---- a problem without its opening
pub begun_at_first_lead : (problem : Setup) (history : List Event) → BeginsAfter (at_first_lead problem) history
begun_at_first_lead problem history = record { later = history; parts = sym (append-nil history) }

-- ---- properties of acts and of their events
pub letters_same : (acts : List Act) → history_letters (map event_of acts) ≡ letters_of (moves_of acts)
letters_same [] = refl
letters_same (act ∷ acts) =
    ap (λ (letter : Letter). letter ∷ history_letters (map event_of acts)) (event_by_letter act.side act.what)
    ∙ ap (λ (rest : Record). letter_of act.what ∷ rest) (letters_same acts)

module _ (problem : Setup) (setup : IsSetup problem) where
  abbrev basis : OpeningBasis
  basis = opening_basis_of problem

  abbrev bare : Setup
  bare = at_first_lead problem

  abbrev bare_is : IsSetup bare
  bare_is = without_opening problem setup

  -- a card of the owner is played in the events exactly where it is played in the acts
  own_played : (acts : List Act) → AllMoves acts → AreAllowed basis acts → (card : ℕ) → has problem.hold card ≡ true →
      has (own_cards (map event_of acts)) card ≡ has (cards_played acts) card
  own_played [] moves allowed card mine = refl
  own_played (act ∷ before) moves allowed card mine = by_act act.side act.what (are_shown basis (act ∷ before) moves allowed)
      (own_played before moves.1 allowed.0 card mine)
    where
      by_act : (side : Side) (what : Move) → AreShown basis (record { side = side; what = what } ∷ before) → has (own_cards (map event_of before)) card ≡ has
          (cards_played before) card →
          has (own_cards (map event_of (record { side = side; what = what } ∷ before))) card ≡ has
          (cards_played (record { side = side; what = what } ∷ before)) card
      by_act Owner (move.Card first) shown rest = ap (λ (b : Bool). eqb first card || b) rest
      by_act Owner move.Go shown rest = rest
      by_act Opponent move.Go shown rest = rest
      by_act Opponent (move.Card first) shown rest =
          let other = false_from_ne_true (eqb first card) (λ same. both_ways (has (known_cards problem) card)
          (shown.unknown card (or_left (eqb first card) (has (cards_by Opponent before) card) same)) (hold_known problem setup card mine)) in
          rest ∙ ap (λ (b : Bool). b || has (cards_played before) card) (sym other)

  module _ (before : List Act) (moves : AllMoves before) (allowed : AreAllowed basis before) where
    abbrev history : List Event
    history = map event_of before

    own_same : own_left problem history ≡ own_left_by basis before
    own_same =
        set_where_agree _ _ (λ card is. has-filter (λ c. not (has (own_cards history) c)) problem.hold card
        ∙ left (has problem.hold card) _ _ (own_played before moves allowed card))
      where
        left : (held played by_acts : Bool) → (held ≡ true → played ≡ by_acts) → (held && not played) ≡ (held && not by_acts)
        left held played by_acts same = grind (arith, nat_tests)

    asked_same : asked_now problem history ≡ asked_by basis before
    asked_same = ap (λ (letters : Record). asked_after (start_of problem) (filled_record (start_of problem) letters)) (letters_same before)

    count_same : count_after problem history ≡ count_by_acts basis before
    count_same = ap (λ (letters : Record). count_of (pile_of (filled_record (start_of problem) letters))) (letters_same before)

    least_same : least_value problem history ≡ least_by basis before
    least_same = ap (λ (letters : Record). least_of (pone_of (start_of problem)) Opponent (filled_record (start_of problem) letters)) (letters_same before)

    -- an act that is allowed in the opening can be next
    act_may : (side : Side) (what : Move) → IsLed bare history → AreShown basis (record { side = side; what = what } ∷ before) → IsMove what →
        Allowed basis before (record { side = side; what = what }) → MayCome bare history (event_by side what)
    act_may Owner (move.Card card) led shown is act =
        let parts = none_of_two (not (has (own_left_by basis before) card)) (not (fits_at (count_by_acts basis before) card)) not_held does_not_fit None
        act.may in
        let fits = leb-true (count_by_acts basis before + card_value card) 31 (not-false (fits_at (count_by_acts basis before) card) parts.1) in (
          asked_same ∙ asked_open (asked_by basis before) Owner act.turn,
          ap (λ (cards : List ℕ). has cards card) own_same ∙ not-false (has (own_left_by basis before) card) parts.0,
          omega (arith, fits, count_same),
        )
    act_may Owner move.Go led shown is act = (
      asked_same ∙ asked_open (asked_by basis before) Owner act.turn,
      (λ i. list_any (λ card. leb (count_same i + card_value card) 31) (own_same i))
          ∙ none_of_one (list_any (fits_at (count_by_acts basis before)) (own_left_by basis before)) must_play act.may,
    )
    act_may Opponent (move.Card card) led shown is act =
        let parts = none_of_two (not (fits_at (count_by_acts basis before) card)) (ltb (card_value card) (least_by basis before)) does_not_fit no_deal None
        act.may in
        let fits = leb-true (count_by_acts basis before + card_value card) 31 (not-false (fits_at (count_by_acts basis before) card) parts.0) in
        let high = ltb-false (card_value card) (least_by basis before) parts.1 in
        let rank = rank_of card in
        let theirs = cards_by Opponent before in
        let most : count_rank rank (card ∷ theirs) ≤ count_rank rank (unseen_of problem) =
        count_within (λ c. eqb (rank_of c) rank) (λ c. not (has (known_cards problem) c)) (card ∷ theirs) shown.distinct
        (λ c h. has_set_from (λ o. not (has (known_cards problem) o)) c (shown.cards c h) (ap not (shown.unknown c h))) in
        shows bare bare_is history led (begun_at_first_lead problem history) (Seen rank) (record {
          is = rank_is card is;
          asked = asked_same ∙ asked_open (asked_by basis before) Opponent act.turn;
          fits = omega (arith, fits, count_same);
          high = omega (arith, high, least_same);
          free = omega (arith, most, count_cons (λ c. eqb (rank_of c) rank) card theirs, one_same rank, ranks_played before rank);
        })
    act_may Opponent move.Go led shown is act =
        let high = ltb-false (count_by_acts basis before) 22 (none_of_one (ltb (count_by_acts basis before) 22) no_deal act.may) in
        shows bare bare_is history led (begun_at_first_lead problem history) Go
        (record { asked = asked_same ∙ asked_open (asked_by basis before) Opponent act.turn; high = omega (arith, high, count_same) })

  pub allowed_led : (acts : List Act) → AllMoves acts → AreAllowed basis acts → IsLed bare (map event_of acts)
  allowed_led [] moves allowed = tt
  allowed_led (act ∷ before) moves allowed =
      let led = allowed_led before moves.1 allowed.0 in (
        led,
        act_may before moves.1 allowed.0 act.side act.what led (are_shown basis (act ∷ before) moves allowed) moves.0
            (allowed_parts basis before act allowed.1),
      )

  -- ---- some hidden deal agrees with the opening
  abbrev events_played : List Event
  events_played = played_events problem

  bare_led : IsLed bare events_played
  bare_led = allowed_led (played_back problem) (back_moves problem setup) setup.allowed

  played_needs : Needs problem setup (their_ranks events_played) (least_value problem events_played)
  played_needs = assumption (needs_history bare bare_is events_played bare_led)

  played_fixes : Fixes problem setup (their_ranks events_played)
  played_fixes = begun_fixes problem setup events_played (record { later = []; parts = refl })

  abbrev pub played_dealt : Dealt
  played_dealt = first_dealt problem setup (their_ranks events_played) (least_value problem events_played)

  played_deal : IsDealOf problem played_dealt
  played_deal = first_is_deal problem setup (their_ranks events_played) (least_value problem events_played) played_needs played_fixes

  played_plays : Plays (start_of problem) (hands_of problem played_dealt) events_played
  played_plays = passing_plays bare bare_is played_dealt (record { deal = played_deal.deal; fixed = refl }) events_played bare_led
      (hold_passes problem setup (their_ranks events_played) (least_value problem events_played) played_needs played_fixes)

  pub played_agrees : AgreesWith problem events_played played_dealt
  played_agrees = agrees_from problem setup played_dealt played_deal events_played played_plays

  pub played_led : IsLed problem events_played
  played_led = agreeing_led problem setup played_dealt events_played played_agrees

  -- each turn of the opening can come after those before it
  pub may_at : (i : ℕ) (act : Act) → i < length problem.played → act ≡ get_or problem.played i act →
      MayCome bare (map event_of (reverse (take i problem.played))) (event_of act)
  may_at i act lt at =
      let acts = problem.played in
      let whole = ap (map event_of) (all_from_back acts i act lt at) ∙ map-append event_of (reverse (drop (i + 1) acts)) (act ∷ reverse (take i acts)) in
      (led_end bare (map event_of (reverse (drop (i + 1) acts))) (event_of act ∷ map event_of (reverse (take i acts))) (rw whole at bare_led)).1
